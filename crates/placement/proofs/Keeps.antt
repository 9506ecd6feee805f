-- The four facts of a plan, from the rules.
use Rattle.std.proofs.Common.{◌≡◌, ℕ, zero, suc, ◌+◌, ◌-◌, ◌%◌, ◌<◌, ◌≤◌, true, false, ◌⊎◌, None, refl, ap, inl, inr, ⊎_elim, add-zero, arith}
use Rattle.std.proofs.lemmas.Bool.{cases_eq, cases_order, cond-false, leb-true, eqb-true, eqb-false, ltb-true, or_cases, and_parts, not-true, both_ways}
use Rattle.refusal.specs.Refusals.{first_below}
use Rattle.refusal.proofs.Firsts.{both_none, passed}
use Rattle.set.specs.declared.sets.Set.{Set}
use Rattle.set.specs.Sets.{models_of, grain_of, weight_of, group_size_of, worker_count_of}
use Rattle.set.proofs.Weights.{weighs}
use Rattle.plan.specs.declared.pieces.Pieces.{Pieces}
use Rattle.plan.specs.declared.pieces.Pieces.TheVariants.{Whole, Divided}
use Rattle.plan.specs.Shares.{worker_of, last_of, first_of, second_of}
use Rattle.plan.specs.Groups.{group_in}
use Rattle.plan.proofs.Spans.{group_next}
use Rattle.placement.specs.declared.cursors.Cursor.{Cursor}
use Rattle.set.specs.Heavy.{heavy, heavies, heavy_count_of}
use Rattle.placement.specs.Rules.{fits, ends, cursor, placed, room_for_light, about_light}
use Rattle.placement.proofs.Rises.{rises}
use Rattle.placement.proofs.Walks.{Seat, whole, fresh, split, Step, heavy_step, light_step, step, walked, heavies_rise}

module _ (set : Set) where
  heavies_more : (n : ℕ) → heavies set (suc n) ≤ heavies set n + 1
  heavies_more n = go (step set n)
    where
      go : Step set n → heavies set (suc n) ≤ heavies set n + 1
      go (heavy_step is more x t) = omega arith
      go (light_step no' same seat) = omega arith

  pub heavies_le : (n : ℕ) → heavies set n ≤ n
  heavies_le zero = omega arith
  heavies_le (suc n) = omega (arith, heavies_le n, heavies_more n)

  heavies_less : (n i : ℕ) → i < n → heavy set i ≡ false → heavies set n < n
  heavies_less zero i h e = absurd (omega arith)
  heavies_less (suc n) i h e =
      ⊎_elim
      (λ (same : i ≡ n).
      let light : heavy set n ≡ false = rw (← same) e in
      omega (arith, heavies_le n, cond-false {A = ℕ} (heavy set n) 1 0 light))
      (λ (ne : i ≡ n → ⊥). let r = heavies_less n i (omega arith) e in omega (arith, heavies_more n))
      (cases_eq i n)

  -- a light model that is not refused leaves the last worker only if it fits there
  pub going : (i : ℕ) → heavy set i ≡ false → about_light set i ≡ None → grain_of set < (cursor set i).load + weight_of set i → (cursor set i).worker ≡ worker_count_of set → ⊥
  going i light none over last =
      ⊎_elim
      (λ (is : heavy set i ≡ true). both_ways (heavy set i) light is)
      (λ rest. ⊎_elim
      (λ (fit : fits (grain_of set) (cursor set i) (weight_of set i) ≡ true). omega (arith, leb-true ((cursor set i).load + weight_of set i) (grain_of set) fit))
      (λ far. eqb-false (cursor set i).worker (worker_count_of set) (not-true _ far) last)
      (or_cases _ _ rest))
      (or_cases _ _ (passed _ _ _ none).0)

  -- the walk stays on its worker, or goes to the next since a light model does not fit
  abbrev Goes : ℕ → Cursor → Type 0
  Goes i t = (t.worker ≡ (cursor set i).worker) ⊎ ((heavy set i ≡ false) × (grain_of set < (cursor set i).load + weight_of set i) × (t.worker ≡ (cursor set i).worker + 1))

  goes : (i : ℕ) → Goes i (cursor set (suc i))
  goes i = go (step set i)
    where
      by_seat : heavy set i ≡ false → (x : Pieces) (t : Cursor) → Seat (heavy_count_of set) (group_size_of set) (grain_of set) (cursor set i) (weight_of set i) x t → Goes i t
      by_seat light x t (whole fit ex et) = inl (ap (λ s. s.worker) et)
      by_seat light x t (fresh over why ex et) = inr (light, over, ap (λ s. s.worker) et)
      by_seat light x t (split over more some ex et) = inr (light, over, ap (λ s. s.worker) et)

      go : Step set i → Goes i (cursor set (suc i))
      go (heavy_step is more x t) = inl (ap (λ s. s.worker) t)
      go (light_step light same seat) = by_seat light (placed set i) (cursor set (suc i)) seat

  -- the walk stays on the workers as long as no model is refused
  pub cursor_within : (i : ℕ) → heavy_count_of set < worker_count_of set → first_below (about_light set) i ≡ None → (cursor set i).worker ≤ worker_count_of set
  cursor_within zero room none = omega arith
  cursor_within (suc i) room none =
      let parts = both_none (first_below (about_light set) i) (about_light set i) none in
      let before = cursor_within i room parts.0 in
      ⊎_elim
      (λ (stays : (cursor set (suc i)).worker ≡ (cursor set i).worker). omega arith)
      (λ goes_on. let ne = going i goes_on.0 parts.1 goes_on.1 in omega (arith, goes_on.2, ne))
      (goes i)

  -- the walk never goes back
  cursor_rises : (j i : ℕ) → i ≤ j → (cursor set i).worker ≤ (cursor set j).worker
  cursor_rises =
      rises (λ i. (cursor set i).worker)
      (λ i. ⊎_elim (λ (stays : (cursor set (suc i)).worker ≡ (cursor set i).worker). omega arith) (λ goes_on. omega (arith, goes_on.2)) (goes i))

  -- what the facts of a plan say of one model
  pub record Well (i : ℕ) (x : Pieces) : Type 0 where
    pub from_one : 1 ≤ worker_of x
    pub within : last_of x ≤ worker_count_of set
    pub adds : first_of x + second_of x ≡ weight_of set i
    pub some_first : 1 ≤ first_of x
    pub some_second : worker_of x < last_of x → 1 ≤ second_of x
    pub grouped : group_in set (worker_of x) ≡ group_in set (last_of x)

  -- the heavy models leave a worker for the light ones
  pub enough : room_for_light set ≡ true → (heavy_count_of set ≤ worker_count_of set) × ((i : ℕ) → i < models_of set → heavy set i ≡ false → heavy_count_of set < worker_count_of set)
  enough ok =
      ⊎_elim
      (λ less. let lt = ltb-true (heavy_count_of set) (worker_count_of set) less in (omega arith, λ i h light. lt))
      (λ level.
      let parts = and_parts _ _ level in
      let all = eqb-true (heavy_count_of set) (models_of set) parts.1 in
      let e = eqb-true (heavy_count_of set) (worker_count_of set) parts.0 in
      (omega arith, λ i h light. absurd (omega (arith, heavies_less (models_of set) i h light))))
      (or_cases _ _ ok)

  well_whole : (i q : ℕ) (x : Pieces) → i < models_of set → x ≡ Whole q (weight_of set i) → 1 ≤ q → q ≤ worker_count_of set → Well i x
  well_whole i q x h e some in-m = rw e record {
    from_one = some;
    within = in-m;
    adds = add-zero (weight_of set i);
    some_first = (weighs set i h).some;
    some_second = λ lt. absurd (omega arith);
    grouped = refl;
  }

  well_split : (i p first second : ℕ) (x : Pieces) → x ≡ Divided p first second → 1 ≤ p → p + 1 ≤ worker_count_of set → first + second ≡ weight_of set i → 1 ≤ first → 1 ≤ second → heavy_count_of set < p → ends (heavy_count_of set) (group_size_of set) p ≡ false → Well i x
  well_split i p first second x e some in-m adds f s high more = rw e record {
    from_one = some;
    within = in-m;
    adds = adds;
    some_first = f;
    some_second = λ lt. s;
    grouped = group_next (heavy_count_of set) (group_size_of set) set.sizes.some_group p high (eqb-false ((p - heavy_count_of set) % group_size_of set) 0 more);
  }

  pub well : (i : ℕ) → i < models_of set → room_for_light set ≡ true → first_below (about_light set) (suc i) ≡ None → Well i (placed set i)
  well i h ok none = go (step set i)
    where
      by_seat : heavy set i ≡ false → (t : Cursor) → t ≡ cursor set (suc i) → Seat (heavy_count_of set) (group_size_of set) (grain_of set) (cursor set i) (weight_of set i) (placed set i) t → Well i (placed set i)
      by_seat light t is (whole fit ex et) =
          let room = (enough ok).1 i h light in
          let parts = both_none (first_below (about_light set) i) (about_light set i) none in
          well_whole i (cursor set i).worker (placed set i) h ex (omega (arith, (walked set i (omega arith)).floor)) (cursor_within i room parts.0)
      by_seat light t is (fresh over why ex et) =
          let room = (enough ok).1 i h light in
          well_whole i ((cursor set i).worker + 1) (placed set i) h ex (omega arith) (omega (arith, cursor_within (suc i) room none, ap (λ s. s.worker) et, ap (λ s. s.worker) is))
      by_seat light t is (split over more some ex et) =
          let room = (enough ok).1 i h light in
          let now' = walked set i (omega arith) in
          well_split i (cursor set i).worker _ _ (placed set i) ex (omega (arith, now'.floor))
          (omega (arith, cursor_within (suc i) room none, ap (λ s. s.worker) et, ap (λ s. s.worker) is))
          (omega (arith, now'.room)) (omega (arith, now'.room, some)) (omega arith) now'.floor more

      go : Step set i → Well i (placed set i)
      go (heavy_step is more x t) = well_whole i (heavies set i + 1) (placed set i) h x (omega arith) (omega (arith, (enough ok).0, heavies_rise set (models_of set) (suc i) h))
      go (light_step no' same seat) = by_seat no' (cursor set (suc i)) refl seat

  -- a divided model has the walk go on to the next worker
  divides : (i : ℕ) → 0 < second_of (placed set i) → (worker_of (placed set i) ≡ (cursor set i).worker) × ((cursor set (suc i)).worker ≡ (cursor set i).worker + 1)
  divides i some = go (step set i)
    where
      not_whole : (q w : ℕ) → placed set i ≡ Whole q w → ⊥
      not_whole q w e = omega (arith, ap second_of e)

      go : Step set i → (worker_of (placed set i) ≡ (cursor set i).worker) × ((cursor set (suc i)).worker ≡ (cursor set i).worker + 1)
      go (heavy_step is more x t) = absurd (not_whole _ _ x)
      go (light_step no' same (whole fit ex et)) = absurd (not_whole _ _ ex)
      go (light_step no' same (fresh over why ex et)) = absurd (not_whole _ _ ex)
      go (light_step no' same (split over more some' ex et)) = (ap worker_of ex, ap (λ s. s.worker) et)

  pub one_first : (i j : ℕ) → 0 < second_of (placed set i) → 0 < second_of (placed set j) → worker_of (placed set i) ≡ worker_of (placed set j) → i ≡ j
  one_first i j di dj e =
      ⊎_elim
      (λ (same : i ≡ j). same)
      (⊎_elim
      (λ (lt : i < j). absurd (omega (arith, (divides i di).0, (divides i di).1, (divides j dj).0, cursor_rises j (suc i) lt)))
      (λ (gt : j < i). absurd (omega (arith, (divides i di).0, (divides j dj).0, (divides j dj).1, cursor_rises i (suc j) gt))))
      (cases_order i j)
