use Rattle.std.proofs.Common.{◌≡◌, ◌-◌, None}
use Rattle.roster.proofs.Opening.{about_first}
use Rattle.roster.proofs.open.check.Given as goal

abbrev pub invariant-loop-model : goal.invariant-loop-model
invariant-loop-model g l = about_first l.plan (g.C.Calendar.spacings l.calendar) (l.model - 1) ≡ None
