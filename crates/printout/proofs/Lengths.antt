-- How long lines are, and texts that are put together from one for each element.
use Rattle.std.proofs.Common.{ℕ, ◌+◌, ◌*◌, ◌^◌, ◌<◌, ◌≤◌, List, [], ◌∷◌, ◌++◌, length, mul-suc, arith}
use Rattle.std.specs.List.{flat_map, AllByRecursion}
use Rattle.std.proofs.lemmas.Fmt.{length-decimal-le}
use Rattle.std.proofs.ByRecursion.{All-weaker}
use Rattle.std.proofs.lemmas.List.{length-append}
use Rattle.printout.specs.Lines.{spaced, line_of}

module _ {X A : Type 0} (f : X → List A) where
  pub length_joined_le : (c : ℕ) (xs : List X) → AllByRecursion (λ x. length (f x) ≤ c) xs → length (flat_map f xs) ≤ c * length xs
  length_joined_le c [] h = omega arith
  length_joined_le c (x ∷ xs) h =
      let one : length (f x) ≤ c = h.0 in
      let more : length (flat_map f xs) ≤ c * length xs = length_joined_le c xs h.1 in
      omega (arith, length-append (f x) (flat_map f xs), mul-suc c (length xs))

pub length_spaced_le : (k n : ℕ) → 0 < k → n < 10 ^ k → n < 2 ^ 64 → length (spaced n) ≤ k + 1
length_spaced_le k n some few small = let digits = length-decimal-le k n some few small in omega arith

pub length_line_by : (c : ℕ) (tag numbers : List ℕ) → AllByRecursion (λ n. length (spaced n) ≤ c) numbers → length (line_of tag numbers) ≤ length tag + c * length numbers + 1
length_line_by c tag numbers h =
    let words = length_joined_le spaced c numbers h in
    omega (arith, length-append tag (flat_map spaced numbers ++ (10 ∷ [])), length-append (flat_map spaced numbers) (10 ∷ []))

-- numbers of at most k digits
pub length_line_le : (k : ℕ) (tag numbers : List ℕ) → 0 < k → 10 ^ k ≤ 2 ^ 64 → AllByRecursion (λ n. n < 10 ^ k) numbers → length (line_of tag numbers) ≤ length tag + (k + 1) * length numbers + 1
length_line_le k tag numbers some within h =
    length_line_by (k + 1) tag numbers (All-weaker _ _ (λ n few. length_spaced_le k n some few (omega arith)) numbers h)
