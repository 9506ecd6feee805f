-- What a calendar means, and its laws. `dates m t` says whether tick t is a date of model m, and `spacings m` how far those dates keep apart at least.
use Rattle.std.specs.Prelude.{◌≡◌, ℕ, ◌+◌, ◌^◌, ◌<◌, ◌≤◌, Bool, IsTrue, IsFalse}
use Rattle.set.specs.Limits.{within}

abbrev pub is_model : ℕ → Bool
is_model m = within 1 64 m

-- d is the earliest date at or after from; `is_date` says of one model which ticks are its dates
pub record Earliest (is_date : ℕ → Bool) (from d : ℕ) : Type 0 where
  pub later : from ≤ d
  pub date : IsTrue (is_date d)
  pub first : (t : ℕ) → from ≤ t → t < d → IsFalse (is_date t)

-- there is no date at or after from
abbrev pub NoneFrom : (ℕ → Bool) → ℕ → Type 0
NoneFrom is_date from = (t : ℕ) → from ≤ t → IsFalse (is_date t)

-- two dates of a model lie at least its spacing apart
abbrev pub Apart : (ℕ → ℕ → Bool) → (ℕ → ℕ) → Type 0
Apart dates spacings = (m a b : ℕ) → a < b → IsTrue (dates m a) → IsTrue (dates m b) → a + spacings m ≤ b

-- the laws of every calendar
pub record CalendarLaws (dates : ℕ → ℕ → Bool) (spacings : ℕ → ℕ) : Type 0 where
  pub apart : Apart dates spacings
  -- dates are below 2^30
  pub early : (m t : ℕ) → IsTrue (dates m t) → t < 2 ^ 30
  -- only models have dates
  pub known : (m t : ℕ) → IsTrue (dates m t) → IsTrue (is_model m)
  -- any other number has the spacing 2^30
  pub unknown : (m : ℕ) → IsFalse (is_model m) → spacings m ≡ 2 ^ 30
  -- a spacing is below 2^32
  pub small : (m : ℕ) → spacings m < 2 ^ 32
