-- What a caller knows of two intervals of group 1, from tick 0 on, when one model was withdrawn before them and another after.
use Rattle.std.specs.Prelude.{◌≡◌, ◌≢◌, ℕ, ◌*◌, ◌≤◌, Bool, IsTrue, List, [], ◌∷◌, ◌++◌, Some, replicate}
use Rattle.set.specs.Sets.{HasModel}
use Rattle.kinds.specs.declared.runs.Run.{Run}
use Rattle.plan.specs.declared.plans.Plan.{Plan}
use Rattle.book.specs.Racks.{Rack, rack_of, is_divided}
use Rattle.book.specs.Sheets.{Sheet, workers_with, got}
use Rattle.book.specs.Books.{Book, blank, group_with}
use Rattle.book.specs.Calls.{Call, Advance, Withdraw, Answer as Given, Leads}
use Rattle.book.specs.Buffers.{words_after}
use Rattle.season.specs.declared.call.Call.TheVariants as call
use Rattle.season.specs.declared.answer.Answer.TheVariants as answer
use Rattle.season.specs.Asking.{IsAnswer}
use Rattle.season.specs.Reading.{sheet_in}
use Rattle.callers.specs.declared.Interval.{Interval}
use Rattle.callers.specs.declared.Kept.{Kept}

-- the sheet of an interval of group 1; there is none where the call was refused
abbrev pub sheet_of : Interval → List Sheet
sheet_of interval = sheet_in (call.Advance 1) (Some interval.answer) interval.words

-- the sheets of both intervals
abbrev pub sheets_of : Kept → List Sheet
sheets_of kept = sheet_of kept.first ++ sheet_of kept.second

-- the interval ends at tick t
abbrev pub EndsAt : ℕ → Interval → Type 0
EndsAt t interval = (start first written : ℕ) × (interval.answer ≡ answer.Advanced start t first written)

-- an interval says what the book answers, and has what that leaves in 512 words that were 0
pub record IsKept (interval : Interval) (given : Given) : Type 0 where
  pub says : IsAnswer interval.answer given
  pub words' : interval.words ≡ words_after given (replicate 512 0)

-- what is kept is what the book answers to the four calls
abbrev pub AreKept : Kept → List Given → Type 0
AreKept kept (p ∷ q ∷ r ∷ s ∷ []) = IsAnswer kept.withdrawal p × IsKept kept.first q × IsKept kept.second r × IsAnswer kept.last_withdrawal s
AreKept kept _ = ⊥

-- the four calls, as the book takes them
abbrev pub calls_of : (before after : ℕ) → List Call
calls_of before after = Withdraw before ∷ Advance 1 512 64 ∷ Advance 1 512 64 ∷ Withdraw after ∷ []

module _ (plan : Plan) (dates : ℕ → ℕ → Bool) where
  abbrev rack : Rack
  rack = rack_of plan

  -- i is a model of group 1 other than the one that is withdrawn before, and has a date at tick 0
  pub record Begins (before i : ℕ) : Type 0 where
    pub model : HasModel plan.set i
    pub other : i ≢ before
    pub here : group_with rack i ≡ 1
    pub date : IsTrue (dates i 0)

  -- what is kept of the calls, and what the sheets come to
  pub record Knows (precedes : Run → Run → Bool) (before after : ℕ) (kept : Kept) : Type 0 where
    -- it is what the book answers to these calls
    pub told : (answers : List Given) (end : Book) → Leads rack dates precedes blank (calls_of before after) answers end → AreKept kept answers
    -- in the first interval each divided one of those models gets its weight for each tick
    pub shared : (t : ℕ) → EndsAt t kept.first → (i : ℕ) → Begins before i → IsTrue (is_divided (rack.pieces i))
        → got rack.grain (sheets_of kept) i 0 (t * rack.grain) ≡ rack.weight i * t
    -- where the second goes as far as the deadline of the run of such a model, the two give it all its parts: the withdrawal after them takes nothing back
    pub whole : (t : ℕ) → EndsAt t kept.second → (i : ℕ) → Begins before i → rack.period i ≤ t
        → got rack.grain (sheets_of kept) i 0 (rack.period i * rack.grain) ≡ rack.parts i
    -- at no part of time is a model on two workers
    pub apart : (i x : ℕ) → HasModel plan.set i → workers_with rack.grain (sheets_of kept) i x ≤ 1
    -- the model that was withdrawn before them gets nothing
    pub out : kept.withdrawal ≡ answer.Withdrew → (x : ℕ) → workers_with rack.grain (sheets_of kept) before x ≡ 0
