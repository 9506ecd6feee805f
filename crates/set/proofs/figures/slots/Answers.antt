use Rattle.std.proofs.Common.{◌∙◌, length, refl, subst, arith}
use Rattle.std.proofs.lemmas.Iterator.{YieldsList-from_slice, YieldsList-from_zip}
use Rattle.std.proofs.lemmas.Iterator.Consumers.{YieldsList-from_enumerate, YieldsList-turn, YieldsList-end}
use Rattle.std.proofs.lemmas.List.{length_push}
use Rattle.set.proofs.Slots.{Filled, item, item_count, filled_none, filled_more, filled_all}
use Rattle.set.proofs.figures.slots.Goals as goal

pub loop-i-init : goal.loop-i-init
loop-i-init c = filled_none c.args.costs.now c.args.periods.now 64

pub loop-i-preserved : goal.loop-i-preserved
loop-i-preserved c =
    let costs = c.args.costs.now in
    let periods = c.args.periods.now in
    let t = YieldsList-turn (YieldsList-from_enumerate (YieldsList-from_zip (YieldsList-from_slice costs cc) (YieldsList-from_slice periods cc)) cc) c.loop-i.yielded _ c.loop-i.yielded_by _ c.next.new.self _ c.in-Some.is c.next.ensures.steps in
    let at = item costs periods (length c.loop-i.yielded) c.in-Some.i _ _ c.requires.level t in
    rw (length_push c.loop-i.yielded _, at.1)
    (filled_more costs periods 64 (length c.loop-i.yielded) c.loop-i.models _ (omega (arith, c.requires.few)) (rw (at.2, at.3) refl) c.loop-i.invariant)

pub returns : goal.returns
returns c =
    let costs = c.args.costs.now in
    let periods = c.args.periods.now in
    let e = YieldsList-end (YieldsList-from_enumerate (YieldsList-from_zip (YieldsList-from_slice costs cc) (YieldsList-from_slice periods cc)) cc) c.loop-i.yielded _ c.loop-i.yielded_by _ c.next.new.self c.in-None.is c.next.ensures.steps in
    filled_all costs periods 64 c.loop-i.models c.requires.level (subst (λ n. Filled costs periods 64 n c.loop-i.models) (e.1 ∙ item_count costs periods c.requires.level) c.loop-i.invariant)
