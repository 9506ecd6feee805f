-- Sums over numbers, and which numbers pass a test.
use Rattle.std.specs.Prelude.{ℕ, zero, suc, ◌+◌, ◌-◌, Bool, false, if◌then◌else◌, ◌||◌}

-- f 0 + .. + f (n - 1)
abbrev pub total : ℕ → (ℕ → ℕ) → ℕ
total zero f = 0
total (suc n) f = total n f + f n

-- f a + .. + f (z - 1)
abbrev pub between : ℕ → ℕ → (ℕ → ℕ) → ℕ
between a z f = total (z - a) (λ k. f (a + k))

-- f 1 + .. + f n
abbrev pub up_to : ℕ → (ℕ → ℕ) → ℕ
up_to n f = total n (λ k. f (k + 1))

-- at least one of 1 .. n passes
abbrev pub some_of : ℕ → (ℕ → Bool) → Bool
some_of zero passes = false
some_of (suc n) passes = some_of n passes || passes (n + 1)

-- the latest of 0 .. t that passes, or 0 if none does
abbrev pub latest : (ℕ → Bool) → ℕ → ℕ
latest passes zero = 0
latest passes (suc t) = if passes (suc t) then suc t else latest passes t
