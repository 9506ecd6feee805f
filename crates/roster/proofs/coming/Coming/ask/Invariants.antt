use Rattle.roster.proofs.Asking.{AskedFirst}
use Rattle.roster.proofs.coming.Coming.ask.Given as goal

abbrev pub invariant-loop-slot : goal.invariant-loop-slot
invariant-loop-slot g l = AskedFirst l.group.plan.now (g.C.Calendar.dates l.calendar) l.models.records l.group.number l.from l.slot l.dates
