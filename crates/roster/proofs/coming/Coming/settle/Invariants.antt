use Rattle.roster.specs.Coming.{dates_in}
use Rattle.roster.proofs.Settling.{SettledFirst}
use Rattle.roster.proofs.coming.Coming.settle.Given as goal

abbrev pub invariant-loop-slot : goal.invariant-loop-slot
invariant-loop-slot l = SettledFirst l.group.plan.now (dates_in l.self.dates) l.group.number l.tick l.fn.models.records l.slot l.models.records
