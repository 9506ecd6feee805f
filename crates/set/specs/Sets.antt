-- What a set says of its models. The model in slot i has the number i + 1.
use Rattle.std.specs.Prelude.{◌≡◌, ℕ, ◌*◌, ◌/◌, ◌≤◌, List, length, map, Option, MatchOption}
use Rattle.refusal.specs.Refusals.{Complaint}
use Rattle.set.specs.Limits.{about_figures}
use Rattle.set.specs.Models.{cost_at, period_at, slots_of}
use Rattle.set.specs.declared.figures.Figures.{Figures}
use Rattle.set.specs.declared.models.Model.{Model}
use Rattle.set.specs.declared.sets.Set.{Set}

module _ (set : Set) where
  abbrev pub models_of : ℕ
  models_of = set.sizes.models

  abbrev pub worker_count_of : ℕ
  worker_count_of = set.sizes.workers

  abbrev pub group_size_of : ℕ
  group_size_of = set.sizes.group_size

  abbrev pub grain_of : ℕ
  grain_of = set.sizes.grain

  abbrev pub cost_of : ℕ → ℕ
  cost_of i = cost_at set.models i

  abbrev pub period_of : ℕ → ℕ
  period_of i = period_at set.models i

  -- what stands in all 64 slots
  abbrev pub costs_of : List ℕ
  costs_of = map (λ (model : Model). model.cost) set.models

  abbrev pub periods_of : List ℕ
  periods_of = map (λ (model : Model). model.period) set.models

  -- the parts of a tick that a model needs on the average
  abbrev pub weight_of : ℕ → ℕ
  weight_of i = cost_of i * (grain_of / period_of i)

  -- the parts that each of its runs needs
  abbrev pub parts_of : ℕ → ℕ
  parts_of i = cost_of i * grain_of

-- a set has just these sizes, costs and periods
pub record Made (workers group grain : ℕ) (costs periods : List ℕ) (set : Set) : Type 0 where
  pub models : set.sizes.models ≡ length costs
  pub workers' : set.sizes.workers ≡ workers
  pub group' : set.sizes.group_size ≡ group
  pub grain' : set.sizes.grain ≡ grain
  pub costs' : costs_of set ≡ slots_of costs
  pub periods' : periods_of set ≡ slots_of periods

-- the set is made of just these figures
abbrev pub MadeOf : Figures → Set → Type 0
MadeOf f set = Made f.workers f.group_size f.grain f.costs.now f.periods.now set

-- all that can be wrong with the figures, the first fault first
abbrev pub about : Figures → Option Complaint
about f = about_figures f.workers f.group_size f.grain f.costs.now f.periods.now

-- a model of the set has this number
pub record HasModel (set : Set) (model : ℕ) : Type 0 where
  pub first : 1 ≤ model
  pub last : model ≤ models_of set

-- what P says of the answer, or none where the set has no model of this number
abbrev pub OfModel : {A : Type 0} → Set → ℕ → Option A → (A → Type 0) → Type 0
OfModel set model answer P = MatchOption answer (HasModel set model → ⊥) (λ x. HasModel set model × P x)

-- w is the weight of a model: over each period it adds up to just the parts of a run, and one worker can give it
pub record Weighs (set : Set) (i w : ℕ) : Type 0 where
  pub is : w ≡ weight_of set i
  pub exact : w * period_of set i ≡ parts_of set i
  pub some : 1 ≤ w
  pub fits : w ≤ grain_of set
