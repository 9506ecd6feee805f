-- The number of each phase, and what a standing says.
use Rattle.std.specs.Prelude.{ℕ, ℤ}
use Rattle.standing.specs.declared.Phase.{Phase}
use Rattle.standing.specs.declared.Phase.TheVariants.{Waiting, Live, Withdrawn}
use Rattle.standing.specs.declared.Standing.{Standing}

abbrev pub phase_number : Phase → ℕ
phase_number Waiting = 1
phase_number Live = 2
phase_number Withdrawn = 3

-- what a standing says: the number of a phase, a date, the parts that a run got, and its lag
pub record Report : Type 0 where
  pub phase : ℕ
  pub date : ℕ
  pub served : ℕ
  pub lag : ℤ

abbrev pub reported : Standing → Report
reported s = record { phase = phase_number s.phase; date = s.date; served = s.served; lag = s.lag }
