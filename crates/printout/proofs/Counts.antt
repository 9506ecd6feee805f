-- A loop that appends a text for each thing of a table, with its number from 1 on.
use Rattle.std.proofs.Common.{◌≡◌, ℕ, ◌+◌, ◌<◌, ◌≤◌, List, [], ◌++◌, length, get_or, take, drop, sym, ap, ◌∙◌, subst, zero-add, arith}
use Rattle.std.specs.List.{range_with_len, flat_map}
use Rattle.std.proofs.lemmas.List.FromFn.{length-range_with_len, get_or-range_with_len}
use Rattle.std.proofs.lemmas.List.{length-take-le, get_or-take}
use Rattle.printout.specs.declared.page.Page.{Page}
use Rattle.printout.specs.Pages.{Fits, Appends}
use Rattle.printout.proofs.Begun.{Begun, begun_end, each_fits, each_more, each_end}

-- the texts of the numbers from i on are left, of n in all
abbrev pub Written : (ℕ → List ℕ) → ℕ → ℕ → Page → Page → Type 0
Written f n i p q = Begun p (flat_map f (range_with_len 0 n)) (flat_map f (drop i (range_with_len 0 n)) ++ []) q

-- the first n things of a table
module _ {X : Type 0} (line : ℕ → X → List ℕ) (d : X) (table : List X) (n : ℕ) (few : n ≤ length table) where
  abbrev row : ℕ → List ℕ
  row i = line (i + 1) (get_or table i d)

  abbrev rows : List ℕ
  rows = flat_map row (range_with_len 0 n)

  module _ (i : ℕ) (p q : Page) (before : Written row n i p q) where
    module _ (h : i < length (take n table)) where
      here : i < length (range_with_len 0 n)
      here = omega (arith, length-take-le n table few, length-range_with_len 0 n)

      row_among : row (get_or (range_with_len 0 n) i 0) ≡ line (i + 1) (get_or (take n table) i d)
      row_among =
          let among : i < n = omega (arith, length-take-le n table few) in
          ap row (get_or-range_with_len 0 n i 0 among ∙ zero-add i) ∙ ap (line (i + 1)) (sym (get_or-take n table i d among))

      pub row_fits : Fits p rows → Fits q (line (i + 1) (get_or (take n table) i d))
      row_fits fits = subst (Fits q) row_among (each_fits row [] (range_with_len 0 n) i 0 here fits before)

      pub row_more : (r : Page) → Appends q (line (i + 1) (get_or (take n table) i d)) r → Written row n (i + 1) p r
      row_more r a = each_more row [] (range_with_len 0 n) i 0 here before (subst (λ (t : List ℕ). Appends q t r) (sym row_among) a)

    pub rows_all : length (take n table) ≤ i → Appends p rows q
    rows_all h = begun_end (each_end row [] (range_with_len 0 n) i (omega (arith, length-take-le n table few, length-range_with_len 0 n)) before)
