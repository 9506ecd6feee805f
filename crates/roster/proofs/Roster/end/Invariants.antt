use Rattle.std.proofs.Common.{◌-◌}
use Rattle.roster.proofs.Seats.{FoundTo}
use Rattle.roster.proofs.Roster.end.Given as goal

abbrev pub decreases-loop-slot : goal.decreases-loop-slot
decreases-loop-slot g l = l.self.plan.now.set.sizes.models - l.slot

abbrev pub invariant-loop-slot : goal.invariant-loop-slot
invariant-loop-slot g l = FoundTo l.self.plan.now l.self.models.records l.second l.worker l.slot l.size l.model
