-- Dates without those of a closed span: what a closure means.
use Rattle.std.specs.Prelude.{ℕ, Bool, not, ◌&&◌, nat_lt, nat_le}

-- tick t is in the span from a up to but without e
abbrev pub is_closed : ℕ → ℕ → ℕ → Bool
is_closed a e t = nat_le a t && nat_lt t e

-- the dates but those in the span
abbrev pub opened : ℕ → ℕ → (ℕ → ℕ → Bool) → ℕ → ℕ → Bool
opened a e dates m t = dates m t && not (is_closed a e t)
