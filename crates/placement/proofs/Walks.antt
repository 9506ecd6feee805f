-- What holds of the walk that placement takes over the workers.
use Rattle.std.proofs.Common.{◌≡◌, ℕ, zero, suc, ◌+◌, ◌-◌, ◌<◌, ◌≤◌, Bool, true, false, ◌||◌, eqb, ◌⊎◌, refl, ap, ◌∙◌, inl, inr, ⊎_elim, add-zero, arith}
use Rattle.std.proofs.lemmas.Bool.{cases_Bool, cond-true, cond-false, leb-true, leb-false, eqb-true, eqb-false, eq-eqb, ne_eqb, cases_eq, or_cases, or_parts}
use Rattle.set.specs.declared.sets.Set.{Set}
use Rattle.set.specs.Sets.{models_of, grain_of, weight_of, group_size_of}
use Rattle.plan.specs.declared.pieces.Pieces.{Pieces}
use Rattle.plan.specs.declared.pieces.Pieces.TheVariants.{Whole, Divided}
use Rattle.plan.specs.Shares.{on_worker, carried}
use Rattle.set.proofs.Weights.{weighs}
use Rattle.placement.specs.declared.cursors.Cursor.{Cursor}
use Rattle.set.specs.Heavy.{heavy, heavies, heavy_count_of}
use Rattle.placement.specs.Rules.{fits, ends, seated, moved, cursor, placed}
use Rattle.placement.proofs.Rises.{rises}
use Rattle.placement.proofs.Carries.{whole_here, whole_else, split_first, split_second, split_else}

module _ (alone k grain : ℕ) (s : Cursor) (w : ℕ) where
  -- the three ways to seat a light model: its pieces x, and where the next one is tried
  pub data Seat (x : Pieces) (t : Cursor) : Type 0 where
    whole : s.load + w ≤ grain → x ≡ Whole s.worker w → t ≡ record { worker = s.worker; load = s.load + w } → Seat x t
    fresh : grain < s.load + w → (ends alone k s.worker ≡ true) ⊎ (s.load ≡ grain) → x ≡ Whole (s.worker + 1) w → t ≡ record { worker = s.worker + 1; load = w } → Seat x t
    split : grain < s.load + w → ends alone k s.worker ≡ false → (s.load ≡ grain → ⊥) → x ≡ Divided s.worker (grain - s.load) (s.load + w - grain) → t ≡ record { worker = s.worker + 1; load = s.load + w - grain } → Seat x t

  abbrev closed : Bool
  closed = ends alone k s.worker || eqb s.load grain

  seat_cases : Seat (seated alone k grain s w) (moved s (seated alone k grain s w))
  seat_cases =
      ⊎_elim
      (λ (fit : fits grain s w ≡ true).
      let x : seated alone k grain s w ≡ Whole s.worker w = cond-true (fits grain s w) _ _ fit in
      whole (leb-true (s.load + w) grain fit) x (ap (moved s) x ∙ stays))
      (λ (unfit : fits grain s w ≡ false).
      let over : grain < s.load + w = leb-false (s.load + w) grain unfit in
      ⊎_elim
      (λ (new : closed ≡ true).
      let x : seated alone k grain s w ≡ Whole (s.worker + 1) w = cond-false (fits grain s w) _ _ unfit ∙ cond-true closed _ _ new in
      fresh over (⊎_elim inl (λ full. inr (eqb-true s.load grain full)) (or_cases _ _ new)) x (ap (moved s) x ∙ goes_on))
      (λ (old : closed ≡ false).
      let x : seated alone k grain s w ≡ Divided s.worker (grain - s.load) (s.load + w - grain) = cond-false (fits grain s w) _ _ unfit ∙ cond-false closed _ _ old in
      let parts = or_parts _ _ old in
      split over parts.0 (eqb-false s.load grain parts.1) x (ap (moved s) x))
      (cases_Bool closed))
      (cases_Bool (fits grain s w))
    where
      stays : moved s (Whole s.worker w) ≡ record { worker = s.worker; load = s.load + w }
      stays = ap (λ l. record { worker = s.worker; load = l }) (cond-true (eqb s.worker s.worker) _ _ (eq-eqb s.worker s.worker refl))

      goes_on : moved s (Whole (s.worker + 1) w) ≡ record { worker = s.worker + 1; load = w }
      goes_on = ap (λ l. record { worker = s.worker + 1; load = l }) (cond-false (eqb (s.worker + 1) s.worker) _ _ (ne_eqb (s.worker + 1) s.worker (λ e. omega arith)))

seat_at : (alone k grain : ℕ) (s : Cursor) (w : ℕ) (x x' : Pieces) (t t' : Cursor) → x ≡ x' → t ≡ t' → Seat alone k grain s w x' t' → Seat alone k grain s w x t
seat_at alone k grain s w x x' t t' e₁ e₂ seat = rw (e₁, e₂) seat

-- what the workers carry before some model: h heavy ones are placed, and the next light one is tried at s
pub record Level (alone grain h : ℕ) (s : Cursor) (load : ℕ → ℕ) : Type 0 where
  pub floor : alone < s.worker
  pub room : s.load ≤ grain
  pub here : load s.worker ≡ s.load
  pub above : (p : ℕ) → s.worker < p → load p ≡ 0
  pub free : (p : ℕ) → h < p → p ≤ alone → load p ≡ 0
  pub most : (p : ℕ) → load p ≤ grain

level_at : (alone grain : ℕ) (load : ℕ → ℕ) (h h' : ℕ) (t t' : Cursor) (x x' : Pieces) → h ≡ h' → t ≡ t' → x ≡ x' → Level alone grain h' t' (λ p. load p + on_worker p x') → Level alone grain h t (λ p. load p + on_worker p x)
level_at alone grain load h h' t t' x x' e₁ e₂ e₃ l = rw (e₁, e₂, e₃) l

module _ (alone grain h : ℕ) (s : Cursor) (load : ℕ → ℕ) (level : Level alone grain h s load) (w : ℕ) (light : w ≤ grain) where
  level_heavy : h + 1 ≤ alone → Level alone grain (h + 1) s (λ p. load p + on_worker p (Whole (h + 1) w))
  level_heavy low = record {
    floor = level.floor;
    room = level.room;
    here = omega (arith, level.here, level.floor, whole_else s.worker (h + 1) w (λ e. omega (arith, level.floor)));
    above = λ p lt. omega (arith, level.above p lt, whole_else p (h + 1) w (λ e. omega (arith, level.floor)));
    free = λ p lt le. omega (arith, level.free p (omega arith) le, whole_else p (h + 1) w (λ e. omega arith));
    most = λ p. ⊎_elim
        (λ (e : h + 1 ≡ p). rw (← e) (omega (arith, level.free (h + 1) (omega arith) low, whole_here (h + 1) w)))
        (λ (ne : h + 1 ≡ p → ⊥). omega (arith, level.most p, whole_else p (h + 1) w ne))
        (cases_eq (h + 1) p);
  }

  level_whole : s.load + w ≤ grain → Level alone grain h (record { worker = s.worker; load = s.load + w }) (λ p. load p + on_worker p (Whole s.worker w))
  level_whole fit = record {
    floor = level.floor;
    room = fit;
    here = omega (arith, level.here, whole_here s.worker w);
    above = λ p lt. omega (arith, level.above p lt, whole_else p s.worker w (λ e. omega arith));
    free = λ p lt le. omega (arith, level.free p lt le, whole_else p s.worker w (λ e. omega (arith, level.floor)));
    most = λ p. ⊎_elim
        (λ (e : s.worker ≡ p). rw (← e) (omega (arith, level.here, whole_here s.worker w)))
        (λ (ne : s.worker ≡ p → ⊥). omega (arith, level.most p, whole_else p s.worker w ne))
        (cases_eq s.worker p);
  }

  level_fresh : Level alone grain h (record { worker = s.worker + 1; load = w }) (λ p. load p + on_worker p (Whole (s.worker + 1) w))
  level_fresh = record {
    floor = omega (arith, level.floor);
    room = light;
    here = omega (arith, level.above (s.worker + 1) (omega arith), whole_here (s.worker + 1) w);
    above = λ p lt. omega (arith, level.above p (omega arith), whole_else p (s.worker + 1) w (λ e. omega arith));
    free = λ p lt le. omega (arith, level.free p lt le, whole_else p (s.worker + 1) w (λ e. omega (arith, level.floor)));
    most = λ p. ⊎_elim
        (λ (e : s.worker + 1 ≡ p). rw (← e) (omega (arith, level.above (s.worker + 1) (omega arith), whole_here (s.worker + 1) w)))
        (λ (ne : s.worker + 1 ≡ p → ⊥). omega (arith, level.most p, whole_else p (s.worker + 1) w ne))
        (cases_eq (s.worker + 1) p);
  }

  level_split : grain < s.load + w → Level alone grain h (record { worker = s.worker + 1; load = s.load + w - grain }) (λ p. load p + on_worker p (Divided s.worker (grain - s.load) (s.load + w - grain)))
  level_split over =
      let first = grain - s.load in
      let second = s.load + w - grain in
      record {
        floor = omega (arith, level.floor);
        room = omega (arith, level.room);
        here = omega (arith, level.above (s.worker + 1) (omega arith), split_second s.worker first second);
        above = λ p lt. omega (arith, level.above p (omega arith), split_else p s.worker first second (λ e. omega arith) (λ e. omega arith));
        free = λ p lt le. omega (arith, level.free p lt le, split_else p s.worker first second (λ e. omega (arith, level.floor)) (λ e. omega (arith, level.floor)));
        most = λ p. ⊎_elim
            (λ (e : s.worker ≡ p). rw (← e) (omega (arith, level.here, level.room, split_first s.worker first second)))
            (λ (ne : s.worker ≡ p → ⊥). ⊎_elim
            (λ (e : s.worker + 1 ≡ p). rw (← e) (omega (arith, level.above (s.worker + 1) (omega arith), level.room, split_second s.worker first second)))
            (λ (ne' : s.worker + 1 ≡ p → ⊥). omega (arith, level.most p, split_else p s.worker first second ne ne'))
            (cases_eq (s.worker + 1) p))
            (cases_eq s.worker p);
      }

  level_light : (k h' : ℕ) (x : Pieces) (t : Cursor) → h' ≡ h → Seat alone k grain s w x t → Level alone grain h' t (λ p. load p + on_worker p x)
  level_light k h' x t e (whole fit ex et) = level_at alone grain load h' h t _ x _ e et ex (level_whole fit)
  level_light k h' x t e (fresh over why ex et) = level_at alone grain load h' h t _ x _ e et ex level_fresh
  level_light k h' x t e (split over going some ex et) = level_at alone grain load h' h t _ x _ e et ex (level_split over)

module _ (set : Set) where
  pub heavies_rise : (n i : ℕ) → i ≤ n → heavies set i ≤ heavies set n
  heavies_rise = rises (heavies set) (λ n. omega arith)

  -- one model of the walk
  pub data Step (i : ℕ) : Type 0 where
    heavy_step : heavy set i ≡ true → heavies set (suc i) ≡ heavies set i + 1 → placed set i ≡ Whole (heavies set i + 1) (weight_of set i) → cursor set (suc i) ≡ cursor set i → Step i
    light_step : heavy set i ≡ false → heavies set (suc i) ≡ heavies set i → Seat (heavy_count_of set) (group_size_of set) (grain_of set) (cursor set i) (weight_of set i) (placed set i) (cursor set (suc i)) → Step i

  pub step : (i : ℕ) → Step i
  step i =
      ⊎_elim
      (λ (yes' : heavy set i ≡ true). heavy_step yes'
      (ap (λ n. heavies set i + n) (cond-true (heavy set i) 1 0 yes'))
      (cond-true (heavy set i) _ _ yes')
      (cond-true (heavy set i) _ _ yes'))
      (λ (no' : heavy set i ≡ false). light_step no'
      (ap (λ n. heavies set i + n) (cond-false (heavy set i) 1 0 no') ∙ add-zero (heavies set i))
      (seat_at _ _ _ _ _ _ _ _ _ (cond-false (heavy set i) _ _ no') (cond-false (heavy set i) _ _ no') (seat_cases (heavy_count_of set) (group_size_of set) (grain_of set) (cursor set i) (weight_of set i))))
      (cases_Bool (heavy set i))

  -- what the workers carry before model i
  abbrev Walked : ℕ → Type 0
  Walked i = Level (heavy_count_of set) (grain_of set) (heavies set i) (cursor set i) (λ p. carried (placed set) p i)

  walks : (i : ℕ) → i < models_of set → Walked i → Step i → Walked (suc i)
  walks i h before (heavy_step is more x t) =
      level_at (heavy_count_of set) (grain_of set) (λ p. carried (placed set) p i) _ _ _ _ _ _ more t x
      (level_heavy (heavy_count_of set) (grain_of set) (heavies set i) (cursor set i) (λ p. carried (placed set) p i) before (weight_of set i) (weighs set i h).fits
      (omega (arith, heavies_rise (models_of set) (suc i) h)))
  walks i h before (light_step no' same seat) =
      level_light (heavy_count_of set) (grain_of set) (heavies set i) (cursor set i) (λ p. carried (placed set) p i) before (weight_of set i) (weighs set i h).fits (group_size_of set) _ _ _ same seat

  pub walked : (i : ℕ) → i ≤ models_of set → Walked i
  walked zero h = record {
    floor = omega arith;
    room = omega arith;
    here = refl;
    above = λ p lt. refl;
    free = λ p lt le. refl;
    most = λ p. omega arith;
  }
  walked (suc i) h = walks i h (walked i (omega arith)) (step i)
