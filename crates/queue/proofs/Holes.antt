-- A hole moves through a list. `set s j x` is the list as it would be, were the travelling thing x written into the hole at j now.
use Rattle.std.proofs.Common.{◌≡◌, ℕ, zero, suc, ◌+◌, ◌<◌, ◌≤◌, List, [], ◌∷◌, length, get_or, take, set, sym, ap, ◌∙◌, add-one, arith, take-suc}
use Rattle.std.proofs.Math.Seq.{take-set-lt}
use Rattle.std.specs.List.{swap}
use Rattle.std.specs.List.Sorted.{IsPermutation}
use Rattle.std.proofs.lemmas.List.{length-set, length-take-le, get_or-take, get_or-set_same, get_or-set_other, get_or_default, set-set, set_comm, take_more_set, drop-set-lt}
use Rattle.std.proofs.lemmas.List.Edits.{swap_is}
use Rattle.std.proofs.lemmas.List.Sorted.{IsPermutation-refl, IsPermutation-trans, IsPermutation-swap, IsPermutation-cons, IsPermutation-to_front, IsPermutation-sym}
use Rattle.queue.specs.Sifting.{Rearranged}

module _ {X : Type 0} where
  -- what the list with x in the hole at j has elsewhere
  pub off_hole : (s : List X) (j u : ℕ) (x d e : X) → (u ≡ j → ⊥) → u < length s → get_or (set s j x) u e ≡ get_or s u d
  off_hole s j u x d e ne l = get_or-set_other s j u x e ne ∙ get_or_default s u e d l

  -- the hole goes from j to u: what stood at u goes to j
  pub hole_moves : (s : List X) (j u : ℕ) (x d : X) → (j ≡ u → ⊥) → j < length s → u < length s → set (set s j (get_or s u d)) u x ≡ swap (set s j x) u j
  hole_moves s j u x d ne lj lu =
      let v = set s j x in
      let y = get_or s u d in
      let apart : u ≡ j → ⊥ = λ e. ne (sym e) in
      let whole : set (set v u (get_or v j x)) j (get_or v u x) ≡ swap v u j = swap_is v u j x (omega (arith, length-set s j x)) (omega (arith, length-set s j x)) in
      cc (whole, get_or-set_same s j x x lj, off_hole s j u x d x apart lu, set_comm v u j x y apart, set-set s j x y)

  -- so the list with x in the hole keeps its things
  hole_permutes : (s : List X) (j u : ℕ) (x d : X) → (j ≡ u → ⊥) → j < length s → u < length s → IsPermutation (set s j x) (set (set s j (get_or s u d)) u x)
  hole_permutes s j u x d ne lj lu = IsPermutation-swap _ _ u j (omega (arith, length-set s j x)) (omega (arith, length-set s j x)) (hole_moves s j u x d ne lj lu)

  -- the hole goes from j to u, both among the first n
  pub Rearranged-moves : (n : ℕ) (start s : List X) (j u : ℕ) (x d : X) → (j ≡ u → ⊥) → j < n → u < n → n ≤ length s → Rearranged n start (set s j x) → Rearranged n start (set (set s j (get_or s u d)) u x)
  Rearranged-moves n start s j u x d ne p q long h =
      let t = take n s in
      let y = get_or s u d in
      let short : length t ≡ n = length-take-le n s long in
      let from : take n (set s j x) ≡ set t j x = take-set-lt n s j x p in
      let to : take n (set (set s j y) u x) ≡ set (set t j y) u x = take-set-lt n (set s j y) u x q ∙ ap (λ (l : List X). set l u x) (take-set-lt n s j y p) in
      let moved = hole_permutes t j u x d ne (omega arith) (omega arith) in
      record {
        room = cc (length-set (set s j y) u x, length-set s j y, length-set s j x);
        holds = IsPermutation-trans _ _ _ h.holds (rw (from, to, ← get_or-take n s u d q) moved);
        behind = cc (drop-set-lt n (set s j y) u x q, drop-set-lt n s j y p, drop-set-lt n s j x p);
      }

  -- a put: x goes into the first free slot, and then finds its place
  pub put_holds : (s t : List X) (n : ℕ) (x : X) → n < length s → IsPermutation (take (n + 1) (set s n x)) (take (n + 1) t) → IsPermutation (x ∷ take n s) (take (n + 1) t)
  put_holds s t n x h = IsPermutation-trans _ _ _ (rw take_more_set (IsPermutation-sym _ _ (IsPermutation-to_front (take n s) x)))

  -- a take begins: the last thing in the slot of the first
  take_begins : (s : List X) (n : ℕ) (d e : X) → n < length s → IsPermutation (take (n + 1) s) (get_or s 0 d ∷ take n (set s 0 (get_or s n e)))
  take_begins [] n d e h = absurd (omega arith)
  take_begins (a ∷ s) zero d e h = IsPermutation-refl (a ∷ [])
  take_begins (a ∷ s) (suc n) d e h =
      let within : n < length s = omega arith in
      rw (add-one, take-suc s n e within) (IsPermutation-cons a _ _ (IsPermutation-to_front (take n s) (get_or s n e)))

  -- a take ends
  pub took : (s t : List X) (m n : ℕ) (d e : X) → m ≡ n + 1 → n < length s → IsPermutation (take n (set s 0 (get_or s n e))) (take n t) → IsPermutation (get_or s 0 d ∷ take n t) (take m s)
  took s t m n d e is h moved = rw is (IsPermutation-sym _ _ (IsPermutation-trans _ _ _ (take_begins s n d e h) (IsPermutation-cons (get_or s 0 d) _ _ moved)))
