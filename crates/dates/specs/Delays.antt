-- Later dates.
use Rattle.std.specs.Prelude.{ℕ, ◌-◌, ◌^◌, Bool, ◌&&◌, nat_lt, nat_le}

-- each date, later by some ticks, if it is still below 2^30
abbrev pub delayed : ℕ → (ℕ → ℕ → Bool) → ℕ → ℕ → Bool
delayed ticks dates m t = nat_le ticks t && nat_lt t (2 ^ 30) && dates m (t - ticks)
