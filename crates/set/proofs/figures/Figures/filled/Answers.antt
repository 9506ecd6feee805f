use Rattle.std.proofs.Common.{arith}
use Rattle.set.proofs.Faults.{lawful_slots, costs_in, periods_in}
use Rattle.set.proofs.figures.Figures.filled.Goals as goal

pub invariant_of-result : goal.invariant_of-result
invariant_of-result c =
    let kept = lawful_slots c.args.self.now.costs.now c.args.self.now.periods.now c.slots.result 64 c.slots.ensures (omega (arith, c.requires.models)) c.requires.level c.args.self.now.grain c.requires.fine c.args.sizes.models c.args.sizes.grain c.requires.models c.requires.grain in
    record { timed = kept.timed; costed = kept.costed; clear = kept.clear; full = kept.full }

pub returns-clause-costs : goal.returns-clause-costs
returns-clause-costs c =
    costs_in c.args.self.now.costs.now c.args.self.now.periods.now c.slots.result 64 c.slots.ensures (omega (arith, c.requires.models)) c.requires.level

pub returns-clause-periods : goal.returns-clause-periods
returns-clause-periods c =
    periods_in c.args.self.now.costs.now c.args.self.now.periods.now c.slots.result 64 c.slots.ensures (omega (arith, c.requires.models)) c.requires.level
