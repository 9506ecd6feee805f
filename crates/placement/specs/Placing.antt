-- What placement answers.
use Rattle.std.specs.Prelude.{◌≡◌, ℕ, ◌+◌, ◌*◌, ◌<◌, ◌≤◌, List, Ok, Err, Result}
use Rattle.refusal.specs.Refusals.{Answers}
use Rattle.refusal.specs.declared.Refusal.{Refusal}
use Rattle.set.specs.declared.sets.Set.{Set}
use Rattle.set.specs.Sets.{models_of, grain_of, worker_count_of, group_size_of}
use Rattle.setfile.specs.Reading.{Reads}
use Rattle.plan.specs.declared.pieces.Pieces.{Pieces}
use Rattle.plan.specs.declared.plans.Plan.{Plan}
use Rattle.plan.specs.Shares.{pieces_at, nowhere}
use Rattle.placement.specs.Rules.{about_placing, placed, total_weight}

-- the first n models are where the rules place them, and the slots behind them hold nothing
pub record Seated (set : Set) (n : ℕ) (pieces : List Pieces) : Type 0 where
  pub each : (i : ℕ) → i < n → pieces_at pieces i ≡ placed set i
  pub behind : (i : ℕ) → n ≤ i → pieces_at pieces i ≡ nowhere

-- the plan of the set, by the rules; its loads are those of its pieces, as in every plan
pub record Follows (set : Set) (plan : Plan) : Type 0 where
  pub same : plan.set ≡ set
  pub seated' : Seated set (models_of set) plan.pieces

abbrev pub Places : Set → Result Plan Refusal → Type 0
Places set r = Answers (about_placing set) r (Follows set)

-- the models weigh at most k / (k + 1) of what the workers can do, or all of it where there is but one group
abbrev pub Modest : Set → Type 0
Modest set =
    (group_size_of set < worker_count_of set → total_weight set (models_of set) * (group_size_of set + 1) ≤ worker_count_of set * grain_of set * group_size_of set)
    × (group_size_of set ≡ worker_count_of set → total_weight set (models_of set) ≤ worker_count_of set * grain_of set)

-- a file that reads as a set gives what placing the set gives, and any other its refusal, unaltered
abbrev pub PlacesRead : Result Set Refusal → Result Plan Refusal → Type 0
PlacesRead (Ok set) r = Places set r
PlacesRead (Err e) r = r ≡ Err e

pub record PlacesFile (bytes : List ℕ) (r : Result Plan Refusal) : Type 0 where
  pub read : Result Set Refusal
  pub reads : Reads bytes read
  pub places : PlacesRead read r
