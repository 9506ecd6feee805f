use Rattle.std.proofs.Common.{◌-◌}
use Rattle.roster.specs.Filling.{run_in}
use Rattle.roster.proofs.Seats.{FilledTo}
use Rattle.roster.proofs.Roster.fill.Given as goal

abbrev pub decreases-loop-slot : goal.decreases-loop-slot
decreases-loop-slot g l = l.self.plan.now.set.sizes.models - l.slot

abbrev pub invariant-loop-slot : goal.invariant-loop-slot
invariant-loop-slot g l = FilledTo l.self.plan.now l.self.models.records (run_in l.self.plan.now l.self.models.records) (g.O.Order.precedes l.self.order.now) l.worker l.slot l.fn.queue l.queue
