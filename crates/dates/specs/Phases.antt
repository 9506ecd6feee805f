-- Dates at an even pace.
use Rattle.std.specs.Prelude.{ℕ, ◌-◌, ◌%◌, ◌^◌, Bool, cond, ◌&&◌, List, nat_lt, nat_le, ◌==◌}
use Rattle.std.proofs.Common.{arith}
use Rattle.dates.specs.declared.phase.Phase.{Phase}
use Rattle.dates.specs.Tables.{at_model}

-- what a number has that is no model's
abbrev pub no_phase : Phase
no_phase = record { first = 0; period = 0; narrow = omega arith }

-- tick t is one of the dates of a phase: the first or some whole periods later, and below 2^30; with the period 0 none is
abbrev pub is_beat : Phase → ℕ → Bool
is_beat p t = nat_lt 0 p.period && nat_le p.first t && (t - p.first) % p.period == 0 && nat_lt t (2 ^ 30)

-- the period, or 2^30 where it is 0
abbrev pub pace : Phase → ℕ
pace p = cond (nat_lt 0 p.period) p.period (2 ^ 30)

abbrev pub phase_at : List Phase → ℕ → Phase
phase_at = at_model no_phase

abbrev pub phase_dates : List Phase → ℕ → ℕ → Bool
phase_dates phases m = is_beat (phase_at phases m)

abbrev pub phase_spacings : List Phase → ℕ → ℕ
phase_spacings phases m = pace (phase_at phases m)
