-- The steps of the code, in the words of the rules.
use Rattle.std.proofs.Common.{◌≡◌, ℕ, suc, ◌+◌, ◌-◌, ◌<◌, ◌≤◌, Bool, true, false, not, ◌||◌, eqb, List, ◌++◌, length, drop, replicate, set as put, None, sym, refl, ap, ◌∙◌, ⊎_elim, add-zero, add-one, arith}
use Rattle.std.proofs.lemmas.List.{get_or-set_same, get_or-set_other, get_or_append_left, get_or-append_right, get_or-drop}
use Rattle.std.proofs.lemmas.Bool.{cond-false, cases_eq}
use Rattle.set.specs.declared.sets.Set.{Set}
use Rattle.set.specs.Sets.{models_of, grain_of, weight_of, worker_count_of, group_size_of}
use Rattle.plan.specs.declared.pieces.Pieces.{Pieces}
use Rattle.placement.specs.declared.cursors.Cursor.{Cursor}
use Rattle.set.proofs.Blanks.{get_or_blank}
use Rattle.plan.specs.Shares.{nowhere, pieces_at}
use Rattle.refusal.specs.Refusals.{check, first_below}
use Rattle.set.specs.Heavy.{is_heavy_weight, heavy, heavies, heavy_count_of}
use Rattle.placement.specs.Rules.{fits, seated, moved, cursor, placed, no_room, about_light, room_for_light}
use Rattle.placement.specs.Placing.{Seated}
use Rattle.placement.proofs.Walks.{walked}
use Rattle.placement.proofs.Keeps.{enough, cursor_within}

-- what is known of the weight of model i + 1, for the slot i that it stands in
pub slot_weight : (set : Set) (i weight : ℕ) → weight ≡ weight_of set (i + 1 - 1) → weight ≡ weight_of set i
slot_weight set i weight e = let slot : i + 1 - 1 ≡ i = omega arith in e ∙ ap (weight_of set) slot

module _ (set : Set) (i weight : ℕ) (r : Bool) (weighs : weight ≡ weight_of set i) (told : r ≡ is_heavy_weight set.sizes weight) where
  heavy_is : (b : Bool) → r ≡ b → heavy set i ≡ b
  heavy_is b e = ap (λ w. is_heavy_weight set.sizes w) (sym weighs) ∙ (sym told ∙ e)

  pub heavies_same : r ≡ false → heavies set (i + 1) ≡ heavies set i
  heavies_same e = rw (add-one i) (ap (λ n. heavies set i + n) (cond-false (heavy set i) 1 0 (heavy_is false e)) ∙ add-zero (heavies set i))

  -- a light model, tried at s
  module _ (is-not : r ≡ false) (s : Cursor) (here : s ≡ cursor set i) (alone : ℕ) (all : alone ≡ heavy_count_of set) where
    pub light_told : check (fits (grain_of set) s weight || not (eqb s.worker (worker_count_of set))) (no_room (i + 1)) None ≡ about_light set i
    light_told = rw (here, weighs, heavy_is false is-not) refl

    pub cursor_moves : (x : Pieces) → x ≡ seated alone (group_size_of set) (grain_of set) s weight → moved s x ≡ cursor set (i + 1)
    cursor_moves x e = rw (e, all, here, weighs, add-one i) (sym (cond-false (heavy set i) _ _ (heavy_is false is-not)))

    module _ (h : i < models_of set) (ok : room_for_light set ≡ true) (none : first_below (about_light set) i ≡ None) where
      pub cursor_ready : (alone < s.worker) × (s.worker ≤ worker_count_of set) × (s.load ≤ grain_of set)
      cursor_ready =
          let level = walked set i (omega arith) in
          let in-m = cursor_within set i ((enough set ok).1 i h (heavy_is false is-not)) none in
          rw (all, here) (level.floor, in-m, level.room)

      pub moved_ready : (x : Pieces) → x ≡ seated alone (group_size_of set) (grain_of set) s weight → about_light set i ≡ None → ((moved s x).worker ≤ worker_count_of set) × ((moved s x).load ≤ grain_of set)
      moved_ready x e fine =
          let level = walked set (suc i) h in
          let in-m = cursor_within set (suc i) ((enough set ok).1 i h (heavy_is false is-not)) (rw none fine) in
          rw (cursor_moves x e, add-one i) (in-m, level.room)

-- one model more
pub placed_more : (set : Set) (i : ℕ) (ps : List Pieces) (x : Pieces) → i < length ps → x ≡ placed set i → ((k : ℕ) → k < i → pieces_at ps k ≡ placed set k) → (k : ℕ) → k < i + 1 → pieces_at (put ps i x) k ≡ placed set k
placed_more set i ps x h e before k lt =
    ⊎_elim
    (λ (same : k ≡ i). rw same (get_or-set_same ps i x nowhere h ∙ e))
    (λ (ne : k ≡ i → ⊥). get_or-set_other ps i k x nowhere ne ∙ before k (omega arith))
    (cases_eq k i)

-- seats that are filled, in front of a table that holds nothing
pub table_seated : (set : Set) (seats : List Pieces) (front size : ℕ) → length seats ≡ models_of set → ((k : ℕ) → k < models_of set → pieces_at seats k ≡ placed set k) → Seated set (models_of set) (seats ++ drop front (replicate size nowhere))
table_seated set seats front size level filled = record {
  each = λ i lt. get_or_append_left seats (drop front (replicate size nowhere)) nowhere i (omega arith) ∙ filled i lt;
  behind = λ i le. get_or-append_right seats (drop front (replicate size nowhere)) (length seats) i nowhere refl (omega arith)
      ∙ get_or-drop front (replicate size nowhere) (i - length seats) nowhere ∙ get_or_blank size (front + (i - length seats)) nowhere;
}
