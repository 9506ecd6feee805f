use Rattle.std.proofs.Common.{rules}
use Rattle.dates.proofs.Phases.{no_number, too_late}
use Rattle.dates.proofs.phase.Phase.earliest.Goals as goal

pub returns-in_err-checked_next_multiple_of-clause-none : goal.returns-in_err-checked_next_multiple_of-clause-none
returns-in_err-checked_next_multiple_of-clause-none c =
    let none = no_number c.args.self c.args.from (λ h. c.in_err-checked_next_multiple_of.ensures (rw c.saturating_sub-wait.ensures h)) in
    search rules

pub returns-clause-none : goal.returns-clause-none
returns-clause-none c =
    let late = too_late c.args.self c.args.from in
    search rules
