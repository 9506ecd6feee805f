-- What is said of things that wait; `precedes a b` says whether a comes before b.
use Rattle.std.specs.Prelude.{◌≡◌, ℕ, ◌+◌, ◌*◌, ◌<◌, ◌≤◌, Bool, false, List, slice_index_or, All}

module _ {X : Type 0} (precedes : X → X → Bool) where
  -- of the first n, none precedes its parent: the children of slot p are slots p * 2 + 1 and p * 2 + 2 (d is what a read past the end would give)
  abbrev pub Heaped : List X → ℕ → Type 0
  Heaped xs n = (p k : ℕ) (d : X) → p * 2 + 1 ≤ k → k ≤ p * 2 + 2 → k < n → precedes (slice_index_or xs k d) (slice_index_or xs p d) ≡ false

  -- none of xs precedes x
  abbrev pub Unpreceded : List X → X → Type 0
  Unpreceded xs x = All (λ y. precedes y x ≡ false) xs
