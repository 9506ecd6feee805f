-- No set that weighs little enough is refused.
use Rattle.std.proofs.Common.{◌≡◌, ℕ, zero, suc, ◌+◌, ◌-◌, ◌*◌, ◌%◌, ◌<◌, ◌≤◌, true, false, cond, not, ◌||◌, eqb, ltb, None, refl, ap, ◌∙◌, ⊎_elim, add-zero, mul-le-mul_right, mod-eq_of_lt, mul-le-mul_left, arith}
use Rattle.std.proofs.Math.Nat.{add-mul-mod_self_right, mod_self, le_of_mul-le-mul_left}
use Rattle.std.proofs.lemmas.Bool.{cases_eq, cases_lt, cases_Bool, cond-true, cond-false, ltb-true, ltb-false, eqb-true, eqb-false, eq-eqb, and_parts, and_cases, and_left, le-ltb, or_parts, not-false, leb-false}
use Rattle.std.proofs.lemmas.Bool.Decides.{nat_tests}
use Rattle.refusal.specs.Refusals.{first_below}
use Rattle.refusal.proofs.Firsts.{both_none}
use Rattle.set.specs.declared.sets.Set.{Set}
use Rattle.set.specs.Sets.{models_of, grain_of, weight_of, group_size_of, worker_count_of}
use Rattle.plan.specs.declared.pieces.Pieces.{Pieces}
use Rattle.placement.specs.declared.cursors.Cursor.{Cursor}
use Rattle.set.specs.Heavy.{heavy, heavies, heavy_count_of}
use Rattle.placement.specs.Rules.{fits, ends, cursor, placed, room_for_light, about_light, about_placing, total_weight}
use Rattle.placement.proofs.Rises.{rises}
use Rattle.placement.proofs.Walks.{Seat, whole, fresh, split, Step, heavy_step, light_step, step, walked}
use Rattle.placement.specs.Placing.{Modest}
use Rattle.placement.proofs.Keeps.{going, cursor_within, enough}

-- a model that no longer fits on the last worker of a group leaves that group more than k / (k + 1) full
closing : (j k grain load w : ℕ) → j + 1 ≡ k → grain < load + w → w * (k + 1) ≤ k * grain → k * grain * k ≤ (k + 1) * (j * grain + load)
closing j k grain load w e over light =
    let light' : w * (j + 2) ≤ (j + 1) * grain = omega (arith, rw (← e) at light) in
    let goal : (j + 1) * grain * (j + 1) ≤ (j + 1 + 1) * (j * grain + load) = omega (arith, mul-le-mul_right (j + 2) over) in
    rw e at goal

-- a group of k workers ends with worker p just where p is the k-th of its group
group_turn : (alone k g j p : ℕ) → p ≡ alone + 1 + g * k + j → j < k → ((p - alone) % k ≡ 0 → j + 1 ≡ k) × (j + 1 ≡ k → (p - alone) % k ≡ 0)
group_turn alone k g j p at inside =
    let rest : (p - alone) % k ≡ (j + 1) % k = ap (λ x. x % k) (omega arith) ∙ add-mul-mod_self_right (j + 1) g k in (
      (λ none. ⊎_elim
          (λ (lt : j + 1 < k). absurd (omega (arith, mod-eq_of_lt lt)))
          (λ (le : k ≤ j + 1). omega arith)
          (cases_lt (j + 1) k)),
      (λ e. rest ∙ (ap (λ x. x % k) e ∙ mod_self k)),
    )

-- a walk over light models: g groups of k workers are closed, and j workers of the next one are full
record Spread (alone k grain : ℕ) (s : Cursor) (weight : ℕ) : Type 0 where
  g : ℕ
  j : ℕ
  at' : s.worker ≡ alone + 1 + g * k + j
  inside : j < k
  filled : k * grain * (g * k) + (k + 1) * (j * grain + s.load) ≤ (k + 1) * weight

module _ (alone k grain : ℕ) (s : Cursor) (weight : ℕ) (spread : Spread alone k grain s weight) (w : ℕ) where
  abbrev g' : ℕ
  g' = spread.g

  abbrev j' : ℕ
  j' = spread.j

  turn : ((s.worker - alone) % k ≡ 0 → j' + 1 ≡ k) × (j' + 1 ≡ k → (s.worker - alone) % k ≡ 0)
  turn = group_turn alone k g' j' s.worker spread.at' spread.inside

  spread_whole : Spread alone k grain (record { worker = s.worker; load = s.load + w }) (weight + w)
  spread_whole = record { g = g'; j = j'; at' = spread.at'; inside = spread.inside; filled = let f = spread.filled in omega arith }

  spread_next : (load : ℕ) → j' + 1 < k → s.load + w ≡ grain + load → Spread alone k grain (record { worker = s.worker + 1; load = load }) (weight + w)
  spread_next load more e = record {
    g = g';
    j = j' + 1;
    at' = let a = spread.at' in omega arith;
    inside = more;
    filled = let f = spread.filled in omega (arith, ap (λ x. (k + 1) * x) e);
  }

  spread_close : j' + 1 ≡ k → grain < s.load + w → w * (k + 1) ≤ k * grain → Spread alone k grain (record { worker = s.worker + 1; load = w }) (weight + w)
  spread_close e over light = record {
    g = g' + 1;
    j = 0;
    at' = let a = spread.at' in omega arith;
    inside = let i = spread.inside in omega arith;
    filled = let f = spread.filled in let c = closing j' k grain s.load w e over light in omega arith;
  }

  -- one light model more, where those that close a group are light indeed
  spread_on : (x : Pieces) (t : Cursor) → Seat alone k grain s w x t → (ends alone k s.worker ≡ true → grain < s.load + w → w * (k + 1) ≤ k * grain) → Spread alone k grain t (weight + w)
  spread_on x t (whole fit ex et) small = rw et spread_whole
  spread_on x t (fresh over why ex et) small = rw et
      (⊎_elim
      (λ (last : j' + 1 ≡ k). spread_close last over (small (eq-eqb ((s.worker - alone) % k) 0 (turn.1 last)) over))
      (λ (ne : j' + 1 ≡ k → ⊥).
      let lt : j' + 1 < k = let i = spread.inside in omega arith in
      spread_next w lt (⊎_elim (λ e. absurd (ne (turn.0 (eqb-true ((s.worker - alone) % k) 0 e)))) (λ full. omega arith) why))
      (cases_eq (j' + 1) k))
  spread_on x t (split over more some ex et) small = rw et
      (⊎_elim
      (λ (last : j' + 1 ≡ k). absurd (eqb-false ((s.worker - alone) % k) 0 more (turn.1 last)))
      (λ (ne : j' + 1 ≡ k → ⊥).
      let lt : j' + 1 < k = let i = spread.inside in omega arith in
      spread_next (s.load + w - grain) lt (omega arith))
      (cases_eq (j' + 1) k))

  -- a model that does not fit on worker m would make the light ones weigh more than k / (k + 1) of the workers behind the first
  spread_over : (m : ℕ) → s.worker ≡ m → grain < s.load + w → 1 ≤ grain → k * grain * (m - alone) < (k + 1) * (weight + w)
  spread_over m e over some =
      let d : m - alone ≡ g' * k + j' + 1 = let a = spread.at' in omega arith in
      let f = spread.filled in
      omega (arith, ap (λ x. k * grain * x) d, mul-le-mul_left (k + 1) over)

  -- and where no group is closed yet, more than all of them
  spread_all : (m : ℕ) → s.worker ≡ m → g' ≡ 0 → grain < s.load + w → (m - alone) * grain < weight + w
  spread_all m e none over =
      let d : m - alone ≡ j' + 1 = let a = spread.at' in omega (arith, ap (λ x. x * k) none) in
      let f = spread.filled in
      let f' : (k + 1) * (j' * grain + s.load) ≤ (k + 1) * weight = omega arith in
      let below : j' * grain + s.load ≤ weight = le_of_mul-le-mul_left f' (omega arith) in
      omega (arith, ap (λ x. x * grain) d)

-- light models that fill more than k / (k + 1) of r workers, and heavy ones that do so with the others, are too many
too_much : (k m grain alone r light heavy total some : ℕ) → m ≡ alone + r → total ≡ light + heavy → alone * (k * grain + 1) ≤ heavy * (k + 1) → some ≤ light → k * grain * r < (k + 1) * some → total * (k + 1) ≤ m * grain * k → ⊥
too_much k m grain alone r light heavy total some e₁ e₂ high in-light over modest =
    omega (arith, rw (e₁, e₂) at modest, mul-le-mul_left (k + 1) in-light)

-- and so are as many heavy models as there are workers
crowd_heavy : (k m grain alone light heavy total : ℕ) → 1 ≤ m → m ≤ alone → total ≡ light + heavy → alone * (k * grain + 1) ≤ heavy * (k + 1) → total * (k + 1) ≤ m * grain * k → ⊥
crowd_heavy k m grain alone light heavy total some over e high modest =
    omega (arith, rw e at modest, mul-le-mul_right (k * grain + 1) over)

module _ (set : Set) where
  light_weight : ℕ → ℕ
  light_weight zero = 0
  light_weight (suc i) = light_weight i + cond (heavy set i) 0 (weight_of set i)

  heavy_weight : ℕ → ℕ
  heavy_weight zero = 0
  heavy_weight (suc i) = heavy_weight i + cond (heavy set i) (weight_of set i) 0

  both_weights : (n : ℕ) → total_weight set n ≡ light_weight n + heavy_weight n
  unfolding light_weight heavy_weight
  both_weights zero = refl
  both_weights (suc n) = let r = both_weights n in grind (arith, nat_tests)

  light_rises : (n i : ℕ) → i ≤ n → light_weight i ≤ light_weight n
  unfolding light_weight
  light_rises = rises light_weight (λ n. omega arith)

  -- the heavy models weigh more than k / (k + 1) of their workers
  heavy_heavy : (n : ℕ) → heavies set n * (group_size_of set * grain_of set + 1) ≤ heavy_weight n * (group_size_of set + 1)
  unfolding heavy_weight
  heavy_heavy zero = omega arith
  heavy_heavy (suc n) =
      let r = heavy_heavy n in
      ⊎_elim
      (λ (is : heavy set n ≡ true).
      let more : group_size_of set * grain_of set < weight_of set n * (group_size_of set + 1) = ltb-true (group_size_of set * grain_of set) (weight_of set n * (group_size_of set + 1)) (and_parts (ltb (group_size_of set) (worker_count_of set)) (ltb (group_size_of set * grain_of set) (weight_of set n * (group_size_of set + 1))) is).1 in
      rw (cond-true {A = ℕ} (heavy set n) 1 0 is, cond-true (heavy set n) (weight_of set n) 0 is) (omega arith))
      (λ (is-not : heavy set n ≡ false).
      rw (cond-false {A = ℕ} (heavy set n) 1 0 is-not, cond-false (heavy set n) (weight_of set n) 0 is-not) (omega arith))
      (cases_Bool (heavy set n))

  -- where all workers are one group, no model is heavy
  none_heavy : worker_count_of set ≤ group_size_of set → (n : ℕ) → heavies set n ≡ 0
  none_heavy wide zero = refl
  none_heavy wide (suc n) =
      let r = none_heavy wide n in
      let light : heavy set n ≡ false = and_left _ _ (le-ltb (group_size_of set) (worker_count_of set) wide) in
      omega (arith, cond-false {A = ℕ} (heavy set n) 1 0 light)

  -- a model that closes a group weighs at most k / (k + 1) of the grain
  small : (i : ℕ) → heavy set i ≡ false → heavy_count_of set < (cursor set i).worker → (cursor set i).worker < worker_count_of set → ends (heavy_count_of set) (group_size_of set) (cursor set i).worker ≡ true → weight_of set i * (group_size_of set + 1) ≤ group_size_of set * grain_of set
  small i light floor Going-on end =
      ⊎_elim
      (λ (narrow : group_size_of set < worker_count_of set).
      ⊎_elim
      (λ (wide : ltb (group_size_of set) (worker_count_of set) ≡ false). absurd (omega (arith, ltb-false (group_size_of set) (worker_count_of set) wide)))
      (λ lean. ltb-false _ _ lean)
      (and_cases _ _ light))
      (λ (wide : worker_count_of set ≤ group_size_of set).
      let none : heavy_count_of set ≡ 0 = none_heavy wide (models_of set) in
      let lt : (cursor set i).worker - heavy_count_of set < group_size_of set = omega arith in
      absurd (omega (arith, mod-eq_of_lt lt, eqb-true (((cursor set i).worker - heavy_count_of set) % group_size_of set) 0 end)))
      (cases_lt (group_size_of set) (worker_count_of set))

  abbrev Spreads : ℕ → Type 0
  Spreads i = Spread (heavy_count_of set) (group_size_of set) (grain_of set) (cursor set i) (light_weight i)

  module _ (ok : room_for_light set ≡ true) where
    spreads_on : (i : ℕ) → i < models_of set → first_below (about_light set) i ≡ None → about_light set i ≡ None → Spreads i → Step set i → Spreads (suc i)
    unfolding light_weight
    spreads_on i h before none spread (heavy_step is more x t) =
        rw (t, cond-true (heavy set i) 0 (weight_of set i) is, add-zero) spread
    spreads_on i h before none spread (light_step light same seat) =
        rw (cond-false (heavy set i) 0 (weight_of set i) light)
        (spread_on (heavy_count_of set) (group_size_of set) (grain_of set) (cursor set i) (light_weight i) spread (weight_of set i) (placed set i) (cursor set (suc i)) seat
        (λ end over.
        let in-m = cursor_within set i ((enough set ok).1 i h light) before in
        let ne = going set i light none over in
        small i light (walked set i (omega arith)).floor (omega (arith, ne)) end))

    spreads : (i : ℕ) → i ≤ models_of set → first_below (about_light set) i ≡ None → Spreads i
    unfolding light_weight
    spreads zero h none = record {
      g = 0;
      j = 0;
      at' = omega arith;
      inside = let k = set.sizes.some_group in omega arith;
      filled = omega arith;
    }
    spreads (suc i) h none =
        let parts = both_none (first_below (about_light set) i) (about_light set i) none in
        spreads_on i h parts.0 parts.1 (spreads i (omega arith) parts.0) (step set i)

    -- a light model that is refused shows how much the models weigh
    crowded : (i : ℕ) → i < models_of set → first_below (about_light set) i ≡ None → heavy set i ≡ false → (cursor set i).worker ≡ worker_count_of set → grain_of set < (cursor set i).load + weight_of set i → Modest set → ⊥
    unfolding light_weight
    crowded i h none light last over modest =
        let n = models_of set in
        let m = worker_count_of set in
        let k = group_size_of set in
        let grain = grain_of set in
        let alone = heavy_count_of set in
        let spread = spreads i (omega arith) none in
        let all : light_weight i + weight_of set i ≤ light_weight n = omega (arith, light_rises n (suc i) h, cond-false (heavy set i) 0 (weight_of set i) light) in
        let whole-weight = both_weights n in
        let fit = (enough set ok).0 in
        let k-in = set.sizes.small_group in
        ⊎_elim
        (λ (narrow : k < m).
        too_much k m grain alone (m - alone) (light_weight n) (heavy_weight n) (total_weight set n) (light_weight i + weight_of set i)
        (omega arith) whole-weight (heavy_heavy n) all
        (spread_over alone k grain (cursor set i) (light_weight i) spread (weight_of set i) m last over set.sizes.some_grain)
        (modest.0 narrow))
        (λ (wide : m ≤ k).
        let e : k ≡ m = omega arith in
        let none-alone : alone ≡ 0 = none_heavy wide n in
        let first : spread.g ≡ 0 = one_group k spread.g spread.j (omega (arith, spread.at')) in
        let d : m - alone ≡ m = omega arith in
        omega (
          arith,
          modest.1 e,
          spread_all alone k grain (cursor set i) (light_weight i) spread (weight_of set i) m last first over,
          ap (λ x. x * grain) d,
        ))
        (cases_lt k m)
      where
        one_group : (k g j : ℕ) → k ≡ 1 + g * k + j → g ≡ 0
        one_group k zero j e = refl
        one_group k (suc g) j e = absurd (omega arith)

  -- the heavy models of a modest set leave room
  roomy : Modest set → room_for_light set ≡ true
  roomy modest =
      ⊎_elim
      (λ ok. ok)
      (λ bad.
      let n = models_of set in
      let m = worker_count_of set in
      let k = group_size_of set in
      let grain = grain_of set in
      let over : m ≤ heavy_count_of set = ltb-false (heavy_count_of set) m (or_parts _ _ bad).0 in
      let some-m = set.sizes.some_workers in
      let whole-weight = both_weights n in
      ⊎_elim
      (λ (narrow : k < m). absurd (crowd_heavy k m grain (heavy_count_of set) (light_weight n) (heavy_weight n) (total_weight set n) some-m over whole-weight (heavy_heavy n) (modest.0 narrow)))
      (λ (wide : m ≤ k). absurd (omega (arith, none_heavy wide n)))
      (cases_lt k m))
      (cases_Bool (room_for_light set))

  pub never_refused : Modest set → about_placing set ≡ None
  never_refused modest = rw (roomy modest) (all (models_of set) (omega arith))
    where
      fine : (i : ℕ) → i < models_of set → first_below (about_light set) i ≡ None → about_light set i ≡ None
      fine i h none =
          ⊎_elim
          (λ ok. cond-true _ _ _ ok)
          (λ bad.
          let parts = or_parts _ _ bad in
          let rest = or_parts _ _ parts.1 in
          absurd (crowded (roomy modest) i h none parts.0 (eqb-true (cursor set i).worker (worker_count_of set) (not-false _ rest.1)) (leb-false ((cursor set i).load + weight_of set i) (grain_of set) rest.0) modest))
          (cases_Bool (heavy set i || (fits (grain_of set) (cursor set i) (weight_of set i) || not (eqb (cursor set i).worker (worker_count_of set)))))

      all : (i : ℕ) → i ≤ models_of set → first_below (about_light set) i ≡ None
      all zero h = refl
      all (suc i) h = let before = all i (omega arith) in rw before (fine i h before)
