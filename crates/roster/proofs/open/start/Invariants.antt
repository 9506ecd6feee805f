use Rattle.roster.proofs.Opening.{Started}
use Rattle.roster.proofs.open.start.Given as goal

abbrev pub invariant-loop-slot : goal.invariant-loop-slot
invariant-loop-slot g l = Started l.plan (g.C.Calendar.dates l.calendar) l.slot l.models.records
