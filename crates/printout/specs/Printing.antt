-- What printing into lent memory answers.
use Rattle.std.specs.Prelude.{◌≡◌, ℕ, List, ◌++◌, length, drop, map, None, Ok, Err, Option, Result, nat_le}
use Rattle.std.specs.List.{range_with_len}
use Rattle.order.specs.Keys.{by_keys}
use Rattle.kinds.specs.Keys.{keys_by_model}
use Rattle.refusal.specs.declared.Layer.TheVariants.{Running}
use Rattle.refusal.specs.declared.memory.Lent.TheVariants.{Text}
use Rattle.refusal.specs.declared.Refusal.{Refusal}
use Rattle.refusal.specs.Refusals.{Complaint, Answers, number_of, place_of_lent, check}
use Rattle.refusal.specs.declared.Fault.TheVariants.{Memory}
use Rattle.plan.specs.declared.plans.Plan.{Plan}
use Rattle.placement.specs.Placing.{PlacesFile}
use Rattle.calendars.specs.Periods.{own_dates}
use Rattle.book.specs.Racks.{Rack, rack_of}
use Rattle.book.specs.Calls.{Call, Advance}
use Rattle.book.specs.Laws.{Answered}
use Rattle.printout.specs.Texts.{plan_text, refusal_text}

-- memory for a text is refused under 16384 bytes
abbrev pub about_memory : ℕ → Option Complaint
about_memory room = check (nat_le 16384 room) (record { number = number_of Memory; layer = Running; place = place_of_lent Text }) None

-- one advance of each of the first n groups, with memory enough for a sheet and scratch
abbrev pub one_of_each : ℕ → List Call
one_of_each n = map (λ g. Advance g 512 64) (range_with_len 1 n)

module _ (plan : Plan) where
  abbrev rack : Rack
  rack = rack_of plan

  -- of each group, up to that of the last worker
  abbrev pub first_advances : List Call
  first_advances = one_of_each (rack.group rack.workers)

  -- the text of the plan: it tells what these calls are answered on a roster that is newly opened,
  -- where each model has the dates 0, T, 2T and so on, and runs are in order by deadline and then by model.
  -- By the book they have one list of answers.
  pub record IsPlanText (text : List ℕ) : Type 0 where
    pub answered : Answered plan (own_dates plan.set) (by_keys keys_by_model) first_advances
    pub tells : text ≡ plan_text plan answered.answers

-- the text of what placing gave
abbrev pub IsText : Result Plan Refusal → List ℕ → Type 0
IsText (Ok plan) text = IsPlanText plan text
IsText (Err e) text = text ≡ refusal_text e

-- the text of a set file: that of what placing the file gives
pub record IsFileText (bytes : List ℕ) (text : List ℕ) : Type 0 where
  pub placed : Result Plan Refusal
  pub places : PlacesFile bytes placed
  pub tells : IsText placed text

-- the first n bytes are a text, the only one that there is, and the others stay as they were
pub record Printed (Is : List ℕ → Type 0) (before after : List ℕ) (n : ℕ) : Type 0 where
  pub text : List ℕ
  pub is : Is text
  pub only : (other : List ℕ) → Is other → other ≡ text
  pub size : n ≡ length text
  pub after' : after ≡ text ++ drop n before

-- memory that is too small is refused; else such a text is printed
abbrev pub Prints : (List ℕ → Type 0) → (before after : List ℕ) → Result ℕ Refusal → Type 0
Prints Is before after result = Answers (about_memory (length before)) result (Printed Is before after)
