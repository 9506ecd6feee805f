use Rattle.plan.specs.Shares.{nowhere}
use Rattle.printout.specs.Texts.{pieces_text}
use Rattle.printout.proofs.Counts.{row_fits, row_more, rows_all}
use Rattle.printout.proofs.Tables.{slots_enough}
use Rattle.printout.proofs.lines.model_lines.Goals as goal

pub pieces_lines-requires : goal.pieces_lines-requires
pieces_lines-requires c =
    let plan = c.args.plan.now in
    row_fits pieces_text nowhere plan.pieces plan.set.sizes.models (slots_enough plan) c.loop-i.i _ _ c.loop-i.invariant c.loop-i-test.true c.requires

pub loop-i-preserved : goal.loop-i-preserved
loop-i-preserved c =
    let plan = c.args.plan.now in
    row_more pieces_text nowhere plan.pieces plan.set.sizes.models (slots_enough plan) c.loop-i.i _ _ c.loop-i.invariant c.loop-i-test.true _ c.pieces_lines.ensures

pub returns : goal.returns
returns c =
    let plan = c.args.plan.now in
    rows_all pieces_text nowhere plan.pieces plan.set.sizes.models (slots_enough plan) c.loop-i.i _ _ c.loop-i.invariant c.loop-i-test.false
