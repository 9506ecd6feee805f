use Rattle.dates.proofs.Checks.{Checked}
use Rattle.calendars.proofs.list.check.Given as goal

abbrev pub invariant-loop-i : goal.invariant-loop-i
invariant-loop-i l = Checked l.spacings l.entries l.least l.past l.i
