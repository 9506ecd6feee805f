-- Orders by numbers: a thing has a list of them, its keys, and the first that differs decides.
use Rattle.std.specs.Prelude.{ℕ, Bool, List}
use Rattle.std.specs.Ordering.{is_lt, nat_cmp}
use Rattle.std.specs.Cmp.Lexicographic.{slice_cmp}

-- at the first place where they differ, the left list has the lower number, or has ended
abbrev pub is_lower : List ℕ → List ℕ → Bool
is_lower xs ys = is_lt (slice_cmp nat_cmp xs ys)

-- the thing with the lower keys precedes
abbrev pub by_keys : {X : Type 0} → (X → List ℕ) → X → X → Bool
by_keys keys a b = is_lower (keys a) (keys b)
