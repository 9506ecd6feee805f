-- A set has no fault, and its numbers are small.
use Rattle.std.proofs.Common.{◌≡◌, ℕ, ◌+◌, ◌%◌, ◌<◌, ◌≤◌, List, length, get_or, take, None, ◌∙◌, mod-eq_of_lt, arith}
use Rattle.std.proofs.lemmas.Bool.Decides.{nat_tests}
use Rattle.std.proofs.lemmas.Grind.{common_steps}
use Rattle.std.proofs.lemmas.List.{ext_get_or, length-map, length-take-le, get_or-take}
use Rattle.std.proofs.Math.ListN.{get_or-map}
use Rattle.refusal.proofs.Firsts.{none_of}
use Rattle.set.specs.Limits.{about_sizes, about_model, about_models}
use Rattle.set.specs.Models.{no_model, slots_of}
use Rattle.set.specs.declared.models.Model.{Model}
use Rattle.set.specs.Sets.{models_of, grain_of, cost_of, period_of, costs_of, periods_of}
use Rattle.set.specs.declared.sizes.Sizes.{Sizes}
use Rattle.set.specs.declared.sets.Set.{Set}

pub good_sizes : (s : Sizes) → about_sizes s.models s.workers s.group_size s.grain ≡ None
good_sizes s = grind (arith, nat_tests)

good_model : (grain model cost period : ℕ) → (1 ≤ period) × (grain % period ≡ 0) → (1 ≤ cost) × (cost ≤ period) → about_model grain model cost period ≡ None
good_model grain model cost period timed costed = grind (arith, nat_tests)

divisor_le : (grain period : ℕ) → 1 ≤ grain → grain % period ≡ 0 → period ≤ grain
divisor_le grain period some h = grind (arith, mod-eq_of_lt)

-- slots that are 0 from n on are made by the first n
slots_from : (n : ℕ) (slots : List ℕ) → n ≤ 64 → length slots ≡ 64 → ((i : ℕ) → n ≤ i → get_or slots i 0 ≡ 0) → slots ≡ slots_of (take n slots)
slots_from n slots few full clear =
    ext_get_or 0 slots (slots_of (take n slots)) (grind (arith, common_steps)) (λ i h. grind (arith, common_steps, clear))

module _ (s : Set) where
  costs_full : length (costs_of s) ≡ 64
  costs_full = length-map s.models (λ (m : Model). m.cost) ∙ s.full

  periods_full : length (periods_of s) ≡ 64
  periods_full = length-map s.models (λ (m : Model). m.period) ∙ s.full

  cost_is : (i : ℕ) → get_or (costs_of s) i 0 ≡ cost_of s i
  cost_is i = get_or-map (λ (m : Model). m.cost) s.models i no_model

  period_is : (i : ℕ) → get_or (periods_of s) i 0 ≡ period_of s i
  period_is i = get_or-map (λ (m : Model). m.period) s.models i no_model

  abbrev pub first_costs : List ℕ
  first_costs = take (models_of s) (costs_of s)

  abbrev pub first_periods : List ℕ
  first_periods = take (models_of s) (periods_of s)

  pub costs_level : length first_costs ≡ models_of s
  costs_level = length-take-le (models_of s) (costs_of s) (omega (arith, s.sizes.few_models, costs_full))

  pub periods_level : length first_periods ≡ models_of s
  periods_level = length-take-le (models_of s) (periods_of s) (omega (arith, s.sizes.few_models, periods_full))

  pub costs_from : costs_of s ≡ slots_of first_costs
  costs_from = slots_from (models_of s) (costs_of s) s.sizes.few_models costs_full (λ i h. cost_is i ∙ (s.clear i h).0)

  pub periods_from : periods_of s ≡ slots_of first_periods
  periods_from = slots_from (models_of s) (periods_of s) s.sizes.few_models periods_full (λ i h. period_is i ∙ (s.clear i h).1)

  period_le : (i : ℕ) → i < models_of s → period_of s i ≤ 100800
  period_le i h =
      omega (arith, divisor_le (grain_of s) (period_of s i) s.sizes.some_grain (s.timed i h).1, s.sizes.small_grain)

  pub small_period : (i : ℕ) → i < length first_periods → get_or first_periods i 0 ≤ 100800
  small_period i h =
      let lt : i < models_of s = omega (arith, periods_level) in
      rw (get_or-take (models_of s) (periods_of s) i 0 lt, period_is i) (period_le i lt)

  pub small_cost : (i : ℕ) → i < length first_costs → get_or first_costs i 0 ≤ 100800
  small_cost i h =
      let lt : i < models_of s = omega (arith, costs_level) in
      rw (get_or-take (models_of s) (costs_of s) i 0 lt, cost_is i) (omega (arith, period_le i lt, (s.costed i lt).1))

  pub good_models : about_models (grain_of s) first_costs first_periods ≡ None
  good_models = none_of (λ i. about_model (grain_of s) (i + 1) (get_or first_costs i 0) (get_or first_periods i 0)) (length first_costs) each
    where
      each : (i : ℕ) → i < length first_costs → about_model (grain_of s) (i + 1) (get_or first_costs i 0) (get_or first_periods i 0) ≡ None
      each i h =
          let lt : i < models_of s = omega (arith, costs_level) in
          rw (get_or-take (models_of s) (costs_of s) i 0 lt, get_or-take (models_of s) (periods_of s) i 0 lt, cost_is i, period_is i)
          (good_model (grain_of s) (i + 1) (cost_of s i) (period_of s i) (s.timed i lt) (s.costed i lt))
