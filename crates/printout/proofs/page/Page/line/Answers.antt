use Rattle.std.proofs.Common.{[], ◌∷◌, arith}
use Rattle.printout.specs.Lines.{spaced}
use Rattle.printout.proofs.Pages.{room_left, appends_append}
use Rattle.printout.proofs.Begun.{begun, begun_all, last_fits, each_fits, each_more, each_end}
use Rattle.printout.proofs.page.Page.line.Goals as goal

pub loop-n-init : goal.loop-n-init
loop-n-init c = begun _ c.put.ensures

pub put-requires-in-loop-n : goal.put-requires-in-loop-n
put-requires-in-loop-n c =
    let fits = each_fits spaced (10 ∷ []) c.args.numbers.now _ 0 c.loop-n-test.true c.requires c.loop-n.invariant in
    omega (arith, fits)

pub number-requires : goal.number-requires
number-requires c =
    let fits = each_fits spaced (10 ∷ []) c.args.numbers.now _ 0 c.loop-n-test.true c.requires c.loop-n.invariant in
    room_left _ _ _ _ c.put-in-loop-n.ensures (omega (arith, fits))

pub loop-n-preserved : goal.loop-n-preserved
loop-n-preserved c =
    let word = appends_append _ _ _ _ _ c.put-in-loop-n.ensures c.number.ensures in
    each_more spaced (10 ∷ []) c.args.numbers.now _ 0 c.loop-n-test.true c.loop-n.invariant word

pub put-requires-2 : goal.put-requires-2
put-requires-2 c = last_fits _ (each_end spaced (10 ∷ []) c.args.numbers.now _ c.loop-n-test.false c.loop-n.invariant) c.requires

pub returns : goal.returns
returns c = begun_all _ (each_end spaced (10 ∷ []) c.args.numbers.now _ c.loop-n-test.false c.loop-n.invariant) c.put-2.ensures
