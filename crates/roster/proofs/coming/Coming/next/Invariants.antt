use Rattle.std.proofs.Common.{◌≡◌}
use Rattle.roster.specs.Coming.{next_of}
use Rattle.roster.proofs.coming.Coming.next.Given as goal

abbrev pub invariant-loop-slot : goal.invariant-loop-slot
invariant-loop-slot l = l.next ≡ next_of l.group.plan.now l.models.records l.self.dates l.group.number l.slot
