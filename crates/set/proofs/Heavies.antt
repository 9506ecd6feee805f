-- Heavy models, counted.
use Rattle.std.proofs.Common.{◌≡◌, ℕ, zero, suc, ◌+◌, Bool, true, false, cond, List, [], ◌∷◌, ◌++◌, length, sym, refl, ap, ◌∙◌, add-one, zero-add}
use Rattle.std.specs.List.{range_with_len, filter}
use Rattle.std.proofs.lemmas.List.FromFn.{filter_of_map_range_with_len_more}
use Rattle.std.proofs.lemmas.List.{length-append, map-id}
use Rattle.set.specs.declared.sets.Set.{Set}
use Rattle.set.specs.Heavy.{heavy, heavies}

-- the heavy ones of the first n models, picked out and counted
pub heavies_picked : (set : Set) (n : ℕ) → length (filter (heavy set) (range_with_len 0 n)) ≡ heavies set n
heavies_picked set zero = refl
heavies_picked set (suc n) =
    ap (λ k. length (filter (heavy set) (range_with_len 0 k))) (sym (add-one n)) ∙ ap length one ∙ length-append (filter (heavy set) (range_with_len 0 n)) (cond (heavy set n) (n ∷ []) [])
    ∙ ap (λ k. k + length (cond (heavy set n) (n ∷ []) [])) (heavies_picked set n) ∙ ap (λ k. heavies set n + k) (last (heavy set n))
  where
    last : (b : Bool) → length (cond b (n ∷ []) []) ≡ cond b 1 0
    last true = refl
    last false = refl

    one : filter (heavy set) (range_with_len 0 (n + 1)) ≡ filter (heavy set) (range_with_len 0 n) ++ cond (heavy set n) (n ∷ []) []
    one =
        ap (filter (heavy set)) (sym (map-id (range_with_len 0 (n + 1))))
        ∙ filter_of_map_range_with_len_more (heavy set) (λ x. x) 0 n n (zero-add n)
        ∙ ap (λ (xs : List ℕ). filter (heavy set) xs ++ cond (heavy set n) (n ∷ []) []) (map-id (range_with_len 0 n))
