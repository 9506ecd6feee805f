-- What the checks of a set leave to be true.
use Rattle.std.proofs.Common.{◌≡◌, ℕ, ◌+◌, ◌-◌, ◌%◌, ◌<◌, ◌≤◌, List, ◌++◌, length, map, get_or, slice_index_or, replicate, None, sym, ap, ◌∙◌, arith}
use Rattle.std.specs.List.{range_with_len}
use Rattle.std.proofs.lemmas.Bool.Decides.{nat_tests}
use Rattle.std.proofs.lemmas.List.{get_or_past}
use Rattle.std.proofs.lemmas.List.FromFn.{get_or-map-range_with_len, length-map-range_with_len, fill_by_all}
use Rattle.std.proofs.lemmas.Simd.{map-map}
use Rattle.std.proofs.lemmas.Grind.{common_steps}
use Rattle.refusal.proofs.Firsts.{none_below}
use Rattle.set.specs.Limits.{about_sizes, about_model, about_models, about_figures}
use Rattle.set.specs.Models.{Timed, Costed, Clear, no_model, cost_at, period_at}
use Rattle.set.specs.declared.models.Model.{Model}

-- past the sizes, only the models can be at fault
pub past_sizes : (workers group grain : ℕ) (costs periods : List ℕ) → length costs ≡ length periods → about_sizes (length costs) workers group grain ≡ None → about_figures workers group grain costs periods ≡ about_models grain costs periods
past_sizes workers group grain costs periods level sizes = grind (arith, nat_tests)

model_sound : (grain model cost period : ℕ) → about_model grain model cost period ≡ None → ((1 ≤ period) × (grain % period ≡ 0)) × ((1 ≤ cost) × (cost ≤ period))
model_sound grain model cost period h = grind (arith, nat_tests)

-- what stands in a slot, behind the last number too
pub slot_is : (xs : List ℕ) (slots i : ℕ) → get_or (xs ++ replicate (slots - length xs) 0) i 0 ≡ get_or xs i 0
slot_is xs slots i = grind (arith, common_steps, get_or_past)

-- numbers with a tail of 0, by what stands in each slot
pub filled : (xs : List ℕ) {slots : ℕ} → length xs ≤ slots → xs ++ replicate (slots - length xs) 0 ≡ map (λ i. get_or xs i 0) (range_with_len 0 slots)
filled xs {slots} few =
    fill_by_all (λ i. get_or xs i 0) (xs ++ replicate (slots - length xs) 0) slots 0 (grind (arith, common_steps)) (λ i h. slot_is xs slots i)

-- what stands in slot i, of these costs and periods
abbrev pub slot_from : List ℕ → List ℕ → ℕ → Model
slot_from costs periods i = record { cost = get_or costs i 0; period = get_or periods i 0 }

-- what the slots of a set keep to
pub record Lawful (n grain : ℕ) (models : List Model) (slots : ℕ) : Type 0 where
  pub timed : Timed n grain models
  pub costed : Costed n models
  pub clear : Clear n models
  pub full : length models ≡ slots

-- slots that are made of costs and periods, one by one
module _ (costs periods : List ℕ) (models : List Model) (slots : ℕ) (made : models ≡ map (slot_from costs periods) (range_with_len 0 slots)) (few : length costs ≤ slots) (level : length costs ≡ length periods) where
  full : length models ≡ slots
  full = ap length made ∙ length-map-range_with_len (slot_from costs periods) 0 slots

  slot_at : (i : ℕ) → slice_index_or models i no_model ≡ slot_from costs periods i
  slot_at i = grind (arith, common_steps, get_or-map-range_with_len, length-map-range_with_len, get_or_past)

  cost_is : (i : ℕ) → cost_at models i ≡ get_or costs i 0
  cost_is i = ap (λ (m : Model). m.cost) (slot_at i)

  period_is : (i : ℕ) → period_at models i ≡ get_or periods i 0
  period_is i = ap (λ (m : Model). m.period) (slot_at i)

  pub costs_in : map (λ (m : Model). m.cost) models ≡ costs ++ replicate (slots - length costs) 0
  costs_in =
      ap (map (λ (m : Model). m.cost)) made
      ∙ map-map (λ (m : Model). m.cost) (slot_from costs periods) (range_with_len 0 slots)
      ∙ sym (filled costs few)

  pub periods_in : map (λ (m : Model). m.period) models ≡ periods ++ replicate (slots - length periods) 0
  periods_in =
      ap (map (λ (m : Model). m.period)) made
      ∙ map-map (λ (m : Model). m.period) (slot_from costs periods) (range_with_len 0 slots)
      ∙ sym (filled periods (omega arith))

  -- they make a set, where the figures have no fault
  pub lawful_slots : (grain : ℕ) → about_models grain costs periods ≡ None → (n grain' : ℕ) → n ≡ length costs → grain' ≡ grain → Lawful n grain' models slots
  lawful_slots grain none n grain' e₁ e₂ = rw (e₁, e₂) record {
    timed = λ i h. rw (period_is i) (sound i h).0;
    costed = λ i h. rw (cost_is i, period_is i) (sound i h).1;
    clear = λ i h. (cost_is i ∙ get_or_past costs i 0 h, period_is i ∙ get_or_past periods i 0 (omega arith));
    full = full;
  }
    where
      sound : (i : ℕ) → i < length costs → ((1 ≤ get_or periods i 0) × (grain % get_or periods i 0 ≡ 0)) × ((1 ≤ get_or costs i 0) × (get_or costs i 0 ≤ get_or periods i 0))
      sound i h =
          model_sound grain (i + 1) (get_or costs i 0) (get_or periods i 0)
          (none_below (λ k. about_model grain (k + 1) (get_or costs k 0) (get_or periods k 0)) (length costs) i h none)
