-- A set of given sizes, costs and periods, written out: what is said of it computes.
use Rattle.std.proofs.Common.{◌≡◌, ℕ, ◌-◌, List, [], ◌∷◌, ◌++◌, length, map, replicate, sym, ◌∙◌, arith}
use Rattle.set.specs.Models.{Timed, Costed, Clear, no_model, slots_of}
use Rattle.set.specs.Sets.{Made}
use Rattle.set.specs.declared.models.Model.{Model}
use Rattle.set.specs.declared.sizes.Sizes.{Sizes}
use Rattle.set.specs.declared.sets.Set.{Set}
use Rattle.set.proofs.Sames.{same_sizes, same_models, same_sets}

-- what the slots of a set keep to
pub record Kept (n grain : ℕ) (models : List Model) : Type 0 where
  pub timed : Timed n grain models
  pub costed : Costed n models
  pub clear : Clear n models
  pub full : length models ≡ 64

-- the models of these costs and periods
abbrev models_with : List ℕ → List ℕ → List Model
models_with (cost ∷ costs) (period ∷ periods) = record { cost = cost; period = period } ∷ models_with costs periods
models_with _ _ = []

-- and their 64 slots
abbrev pub slots : List ℕ → List ℕ → List Model
slots costs periods = models_with costs periods ++ replicate (64 - length costs) no_model

-- the slots hold these costs and periods
abbrev pub Holds : List ℕ → List ℕ → Type 0
Holds costs periods = (map (λ (m : Model). m.cost) (slots costs periods) ≡ slots_of costs) × (map (λ (m : Model). m.period) (slots costs periods) ≡ slots_of periods)

module _ {workers group grain : ℕ} {costs periods : List ℕ} (set : Set) (made : Made workers group grain costs periods set) (holds : Holds costs periods) where
  abbrev models : List Model
  models = slots costs periods

  -- they are the set's own
  pub kept : Kept (length costs) grain models
  kept =
      let same : set.models ≡ models = same_models set.models models (made.costs' ∙ sym holds.0) (made.periods' ∙ sym holds.1) in
      rw (← same, ← made.models, ← made.grain') record { timed = set.timed; costed = set.costed; clear = set.clear; full = set.full }

  abbrev pub sizes : Sizes
  sizes = record {
    models = length costs;
    workers = workers;
    group_size = group;
    grain = grain;
    some_models = omega (arith, made.models);
    few_models = omega (arith, made.models);
    some_workers = omega arith;
    few_workers = omega arith;
    some_group = omega arith;
    small_group = omega arith;
    some_grain = omega arith;
    small_grain = omega arith;
  }

  abbrev pub written : Set
  written = record {
    sizes = sizes;
    models = models;
    timed = kept.timed;
    costed = kept.costed;
    clear = kept.clear;
    full = kept.full;
  }

  pub is_written : set ≡ written
  is_written = same_sets set written (same_sizes set.sizes sizes made.models made.workers' made.group' made.grain') (made.costs' ∙ sym holds.0) (made.periods' ∙ sym holds.1)
