-- The dates that a set gives its models by itself.
use Rattle.std.specs.Prelude.{ℕ, ◌-◌, ◌%◌, ◌^◌, Bool, if◌then◌else◌, ◌&&◌, nat_lt, ◌==◌}
use Rattle.set.specs.declared.sets.Set.{Set}
use Rattle.set.specs.Limits.{within}
use Rattle.set.specs.Sets.{models_of, period_of}

-- the dates of model i are 0, T, 2T and so on below 2^30, where T is its period
abbrev pub own_dates : Set → ℕ → ℕ → Bool
own_dates set i t = within 1 (models_of set) i && t % period_of set (i - 1) == 0 && nat_lt t (2 ^ 30)

-- its spacing is its period; any other number has 2^30
abbrev pub own_spacings : Set → ℕ → ℕ
own_spacings set i = if within 1 (models_of set) i then period_of set (i - 1) else 2 ^ 30
