-- The phases that a set gives its models.
use Rattle.std.proofs.Common.{◌≡◌, ℕ, ◌-◌, ◌%◌, ◌^◌, ◌<◌, ◌≤◌, true, cond, List, get_or, inl, inr, nat_lt, nat_le, ◌&&◌, ap, ◌∙◌, arith}
use Rattle.std.specs.Bool.{◌==◌}
use Rattle.std.proofs.lemmas.Bool.{cases_Bool, cases_lt, cond-true, and_parts, le-leb, leb-true}
use Rattle.std.proofs.lemmas.Bool.Decides.{nat_tests}
use Rattle.set.specs.declared.sets.Set.{Set}
use Rattle.set.specs.Limits.{within}
use Rattle.set.specs.Sets.{models_of, period_of}
use Rattle.dates.specs.declared.phase.Phase.{Phase}
use Rattle.dates.specs.Dates.{is_model}
use Rattle.dates.specs.Phases.{no_phase, is_beat, phase_at, phase_dates, phase_spacings}
use Rattle.calendars.specs.Periods.{own_dates, own_spacings}

-- in each slot a phase that begins at 0 and has the model's period
abbrev pub OwnPhases : Set → List Phase → Type 0
OwnPhases set phases = (i : ℕ) → i < 64 → ((get_or phases i no_phase).first ≡ 0) × ((get_or phases i no_phase).period ≡ period_of set i)

-- what the test of a date comes to
beat_from_zero : (p : Phase) (period t : ℕ) → p.first ≡ 0 → p.period ≡ period → is_beat p t ≡ (nat_lt 0 period && t % period == 0 && nat_lt t (2 ^ 30))
beat_from_zero p period t none is =
    let all : t - 0 ≡ t = omega arith in
    rw (none, is, all, le-leb 0 t (omega arith)) (grind (arith, nat_tests))

module _ (set : Set) (phases : List Phase) (own : OwnPhases set phases) where
  at_slot : (m : ℕ) → is_model m ≡ true → phase_at phases m ≡ get_or phases (m - 1) no_phase
  at_slot m is = cond-true (is_model m) _ _ is

  -- just the slots of the set's models have a period
  has_period : (m : ℕ) → 1 ≤ m → nat_lt 0 (period_of set (m - 1)) ≡ within 1 (models_of set) m
  has_period m some = elim (cases_lt (models_of set) m) [
    | inl behind ↦ let clear = (set.clear (m - 1) (omega arith)).1 in grind (arith, nat_tests)
    | inr among ↦ let timed = (set.timed (m - 1) (omega arith)).0 in grind (arith, nat_tests)
  ]

  one_date : (m t : ℕ) → phase_dates phases m t ≡ own_dates set m t
  one_date m t =
      let few = set.sizes.few_models in
      elim (cases_Bool (is_model m)) [
        | inl is ↦
            let both = and_parts (nat_le 1 m) (nat_le m 64) is in
            let some = leb-true 1 m both.0 in
            let phase = own (m - 1) (omega (arith, some, leb-true m 64 both.1)) in
            rw (at_slot m is) (beat_from_zero (get_or phases (m - 1) no_phase) (period_of set (m - 1)) t phase.0 phase.1 ∙ ap (λ b. b && t % period_of set (m - 1) == 0 && nat_lt t (2 ^ 30)) (has_period m some))
        | inr none ↦ rw none (grind (arith, nat_tests))
      ]

  pub own_phase_dates : phase_dates phases ≡ own_dates set
  own_phase_dates = λ k m t. one_date m t k

  one_spacing : (m : ℕ) → phase_spacings phases m ≡ own_spacings set m
  one_spacing m =
      let few = set.sizes.few_models in
      elim (cases_Bool (is_model m)) [
        | inl is ↦
            let both = and_parts (nat_le 1 m) (nat_le m 64) is in
            let some = leb-true 1 m both.0 in
            let phase = own (m - 1) (omega (arith, some, leb-true m 64 both.1)) in
            rw (at_slot m is, phase.1) (ap (λ b. cond b (period_of set (m - 1)) (2 ^ 30)) (has_period m some))
        | inr none ↦ rw none (grind (arith, nat_tests))
      ]

  pub own_phase_spacings : phase_spacings phases ≡ own_spacings set
  own_phase_spacings = λ k m. one_spacing m k
