-- What the steps of a merge promise each other; no public contract speaks of it.
use Rattle.std.specs.Prelude.{◌≡◌, ℕ, ◌<◌, ◌≤◌, ◌⊎◌, Bool, cond, List, ◌∷◌, length, take, drop, IsFalse, All, AllPairs, Contains, sum_by, ◌==◌}
use Rattle.std.specs.List.Sorted.{IsPermutation}
use Rattle.kinds.specs.declared.entries.Entry.{Entry}
use Rattle.dates.specs.Dates.{Earliest}
use Rattle.dates.specs.Agendas.{IsDateIn, IsBefore}

-- at most one of them is of each model
abbrev pub OneEach : List Entry → Type 0
OneEach qs = (m : ℕ) → sum_by (λ (q : Entry). cond (q.model == m) 1 0) qs ≤ 1

-- one of qs has the model of y, and is not after it
pub record Awaits (qs : List Entry) (y : Entry) : Type 0 where
  pub next : Entry
  pub waits : Contains qs next
  pub of : next.model ≡ y.model
  pub by : next.tick ≤ y.tick

module _ (dates : ℕ → ℕ → Bool) where
  -- the earliest date of model m at or after a joins qs, if there is one below e; then they are rs
  abbrev pub Joined : ℕ → ℕ → ℕ → List Entry → List Entry → Type 0
  Joined m a e qs rs =
      (((t : ℕ) → a ≤ t → t < e → IsFalse (dates m t)) × (rs ≡ qs))
      ⊎ ((t : ℕ) × Earliest (dates m) a t × (t < e) × IsPermutation (record { tick = t; model = m } ∷ qs) rs)

  -- xs are the first dates of the span, in order, and the next one of each model waits in qs
  pub record Merged (a e : ℕ) (xs qs : List Entry) : Type 0 where
    pub in_order : AllPairs IsBefore xs
    pub given : All (IsDateIn dates a e) xs
    pub waiting : All (IsDateIn dates a e) qs
    pub behind : All (λ q. All (λ x. IsBefore x q) xs) qs
    pub one_each : OneEach qs
    pub rest : (y : Entry) → IsDateIn dates a e y → Contains xs y ⊎ Awaits qs y

  -- a table was old and is new: the first n dates went into it, all or as many as it has room for, and qs wait
  pub record Given (a e n : ℕ) (old new qs : List Entry) : Type 0 where
    pub merges : Merged a e (take n new) qs
    pub bound : n ≤ length old
    pub ends : n < length old → length qs ≡ 0
    pub as_long : length new ≡ length old
    pub behind : drop n new ≡ drop n old
