-- Ten examples of the rules of placement and of the plain book.
use Rattle.std.specs.Prelude.{◌≡◌, ℕ, Bool, true, false, List, [], ◌∷◌, ◌++◌, length, map, replicate, None, Some, slice_index}
use Rattle.std.specs.List.{range_with_len}
use Rattle.std.proofs.Common.{arith}
use Rattle.refusal.specs.Refusals.{number_of}
use Rattle.refusal.specs.declared.Fault.{Fault}
use Rattle.refusal.specs.declared.Fault.TheVariants.{Heavy, Full}
use Rattle.refusal.specs.declared.Layer.TheVariants.{Placement}
use Rattle.set.specs.declared.sets.Set.{Set}
use Rattle.set.specs.Sets.{Made, worker_count_of}
use Rattle.set.specs.Heavy.{is_heavy_weight}
use Rattle.set.specs.declared.sizes.Sizes.{Sizes}
use Rattle.plan.specs.declared.pieces.Pieces.TheVariants.{Whole}
use Rattle.plan.specs.declared.plans.Plan.{Plan}
use Rattle.plan.specs.Shares.{pieces_at}
use Rattle.placement.specs.Rules.{about_placing}
use Rattle.placement.specs.Placing.{Follows}
use Rattle.order.specs.Keys.{by_keys}
use Rattle.kinds.specs.Keys.{keys_by_model}
use Rattle.dates.specs.declared.phase.Phase.{Phase}
use Rattle.dates.specs.Phases.{no_phase, phase_dates, phase_spacings}
use Rattle.book.specs.Racks.{rack_of}
use Rattle.book.specs.Sheets.{Sheet, words_of}
use Rattle.book.specs.Books.{Book, blank, entered}
use Rattle.book.specs.Calls.{Call, Answer, Advance, Advanced, Leads}
use Rattle.book.specs.Laws.{Lawful}

-- sets of so many workers, workers to a group and parts to a tick, with models of these weights: each has its weight as cost, and the grain as period
module _ (workers group grain : ℕ) (weights : List ℕ) where
  abbrev pub Weighing : Set → Type 0
  Weighing set = Made workers group grain weights (replicate (length weights) grain) set

  -- placement refuses such a set, for this fault and with this place
  abbrev pub Refuses : Fault → (place : ℕ) → Type 0
  Refuses fault place = (set : Set) → Weighing set → about_placing set ≡ Some (record { number = number_of fault; layer = Placement; place = place })

-- placement refuses nothing of such sets, and P says something of every plan by the rules
abbrev pub Gives : (Set → Type 0) → (Plan → Type 0) → Type 0
Gives Such P = (set : Set) → Such set → (about_placing set ≡ None) × ((plan : Plan) → Follows set plan → P plan)

-- the loads of all workers
abbrev pub loads_of : Plan → List ℕ
loads_of plan = map (slice_index plan.loads) (range_with_len 0 (worker_count_of plan.set))

-- three models of weight 6, on two workers in one group
abbrev pub GivesThree : (Plan → Type 0) → Type 0
GivesThree = Gives (Weighing 2 2 10 (6 ∷ 6 ∷ 6 ∷ []))

-- each of the three has a date every 10 ticks, from 0 on
abbrev pub every_ten : Phase
every_ten = record { first = 0; period = 10; narrow = omega arith }

abbrev pub phases_of_three : List Phase
phases_of_three = replicate 3 every_ten ++ replicate 61 no_phase

abbrev pub dates_of_three : ℕ → ℕ → Bool
dates_of_three = phase_dates phases_of_three

abbrev pub spacings_of_three : ℕ → ℕ
spacings_of_three = phase_spacings phases_of_three

-- a roster can be opened over the plan with these dates; ties go by model number
abbrev pub OpensThree : Plan → Type 0
OpensThree plan = Lawful plan dates_of_three spacings_of_three (by_keys keys_by_model)

-- the calls lead from one of its books to another
abbrev pub LeadsThree : Book → List Call → List Answer → Book → Plan → Type 0
LeadsThree b calls answers c plan = Leads (rack_of plan) dates_of_three (by_keys keys_by_model) b calls answers c

-- an advance of group 1, which is lent just as much memory as it wants
abbrev pub advance : Call
advance = Advance 1 512 64

-- the sheet from 0 to 10
abbrev pub first_sheet : Sheet
first_sheet = record {
  group = 1;
  start = 0;
  end = 10;
  first = 1;
  rows =
      (record { end = 40; model = 2 } ∷ record { end = 100; model = 1 } ∷ [])
      ∷ (record { end = 60; model = 3 } ∷ record { end = 80; model = 0 } ∷ record { end = 100; model = 2 } ∷ [])
      ∷ [];
}

-- the sheet from 10 to 20, which is mirrored
abbrev pub second_sheet : Sheet
second_sheet = record {
  group = 1;
  start = 10;
  end = 20;
  first = 1;
  rows =
      (record { end = 60; model = 1 } ∷ record { end = 100; model = 2 } ∷ [])
      ∷ (record { end = 20; model = 2 } ∷ record { end = 80; model = 3 } ∷ record { end = 100; model = 0 } ∷ [])
      ∷ [];
}

pub record Examples : Type 0 where
  -- a roster can be opened, and makes the first advance; its words are the number of rows, their lengths, all ends and all models
  pub first_advance :
      GivesThree (λ plan. OpensThree plan × LeadsThree blank (advance ∷ []) (Advanced first_sheet ∷ []) (entered blank first_sheet) plan)
      × (words_of first_sheet ≡ 2 ∷ 2 ∷ 3 ∷ 40 ∷ 100 ∷ 60 ∷ 80 ∷ 100 ∷ 2 ∷ 1 ∷ 3 ∷ 0 ∷ 2 ∷ [])
  -- the first advance, then the next
  pub second_advance :
      GivesThree (LeadsThree blank (advance ∷ advance ∷ []) (Advanced first_sheet ∷ Advanced second_sheet ∷ []) (entered (entered blank first_sheet) second_sheet))
      × (words_of second_sheet ≡ 2 ∷ 2 ∷ 3 ∷ 60 ∷ 100 ∷ 20 ∷ 80 ∷ 100 ∷ 1 ∷ 2 ∷ 2 ∷ 3 ∷ 0 ∷ [])
  -- with two workers to a group, two thirds of the grain are light, and one part more is heavy
  pub two_thirds : (sizes : Sizes) → sizes.workers ≡ 3 → sizes.group_size ≡ 2 → sizes.grain ≡ 12 → (is_heavy_weight sizes 8 ≡ false) × (is_heavy_weight sizes 9 ≡ true)
  -- two workers are full, and the third has nothing
  pub third_idle : Gives (Weighing 3 2 12 (8 ∷ 8 ∷ 8 ∷ [])) (λ plan. loads_of plan ≡ 12 ∷ 12 ∷ 0 ∷ [])
  -- both workers are full
  pub filled : Gives (Weighing 2 2 10 (6 ∷ 6 ∷ 8 ∷ [])) (λ plan. loads_of plan ≡ 10 ∷ 10 ∷ [])
  -- one part more, and the third model finds no room
  pub too_full : Refuses 2 2 10 (6 ∷ 6 ∷ 9 ∷ []) Full 3
  -- where a worker is full, the next model is whole on the next
  pub next_worker : Gives (Weighing 2 2 10 (10 ∷ 3 ∷ [])) (λ plan. pieces_at plan.pieces 1 ≡ Whole 2 3)
  -- where a group ends, too: no model is divided between groups
  pub next_group : Gives (Weighing 2 1 10 (4 ∷ 4 ∷ 4 ∷ [])) (λ plan. pieces_at plan.pieces 2 ≡ Whole 2 4)
  -- three heavy models on two workers
  pub three_heavy : Refuses 2 1 10 (6 ∷ 6 ∷ 6 ∷ []) Heavy 3
  -- two heavy models, which leave no worker for a light one
  pub two_heavy : Refuses 2 1 10 (6 ∷ 6 ∷ 1 ∷ []) Heavy 2
