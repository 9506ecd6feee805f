-- What is reported of a model that is in a phase; no public contract speaks of it.
use Rattle.std.specs.Prelude.{ℕ, ◌-◌, ◌*◌, pos, ◌-ℤ◌}
use Rattle.standing.specs.declared.Phase.TheVariants as answer
use Rattle.standing.specs.Standings.{Report, phase_number}
use Rattle.book.specs.Calls.{quiet}
use Rattle.roster.specs.declared.phase.Phase.{Phase}
use Rattle.roster.specs.declared.phase.Phase.TheVariants.{Waiting, Live, Withdrawn}

-- of a model with so many parts of each tick at an even pace, at a present
abbrev pub report_of : Phase → (weight present : ℕ) → Report
report_of Waiting weight present = quiet answer.Waiting
report_of (Live date served) weight present = record { phase = phase_number answer.Live; date = date; served = served; lag = pos served -ℤ pos (weight * (present - date)) }
report_of Withdrawn weight present = quiet answer.Withdrawn
