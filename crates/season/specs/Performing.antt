-- What a list of entries holds when its calls were performed.
use Rattle.std.specs.Prelude.{◌≡◌, ℕ, Bool, List, [], ◌∷◌, length, map, Some}
use Rattle.kinds.specs.declared.runs.Run.{Run}
use Rattle.plan.specs.declared.plans.Plan.{Plan}
use Rattle.book.specs.Calls.{Call as Asked, Answer as Given}
use Rattle.book.specs.Laws.{Answered}
use Rattle.season.specs.declared.answer.Answer.{Answer}
use Rattle.season.specs.declared.entry.Entry.{Entry}
use Rattle.season.specs.Asking.{asked, Gives}
use Rattle.season.specs.Reading.{sheets_in}
use Rattle.season.specs.Serving.{Serves}

-- the call of an entry, as the book takes it
abbrev pub asked_by : Entry → Asked
asked_by entry = asked entry.call entry.sheet.now entry.scratch.now

-- an entry after its call, to which the book answers so
pub record Holds (old : Entry) (given : Given) (new : Entry) : Type 0 where
  pub call' : new.call ≡ old.call
  pub answer : Answer
  pub answer' : new.answer ≡ Some answer
  pub gives : Gives answer old.sheet.now new.sheet.now old.scratch.now new.scratch.now given
  -- it is the same memory, and as long
  pub long : (length new.sheet.now ≡ length old.sheet.now) × (length new.scratch.now ≡ length old.scratch.now)
  pub same_sheet : new.sheet.ghost_name ≡ old.sheet.ghost_name
  pub same_scratch : new.scratch.ghost_name ≡ old.scratch.ghost_name

-- all entries, one by one
pub data Hold : List Entry → List Given → List Entry → Type 0 where
  hold_none : Hold [] [] []
  hold_more : (old new : Entry) (given : Given) (olds news : List Entry) (givens : List Given) → Holds old given new → Hold olds givens news → Hold (old ∷ olds) (given ∷ givens) (new ∷ news)

-- the entries when their calls were performed on a roster that was newly opened
pub record Performed (plan : Plan) (dates : ℕ → ℕ → Bool) (precedes : Run → Run → Bool) (olds news : List Entry) : Type 0 where
  -- by the book these calls have one list of answers, and each entry holds its own
  pub answered : Answered plan dates precedes (map asked_by olds)
  pub hold : Hold olds answered.answers news
  -- the sheets that the entries hold are all sheets of the book at the end
  pub sheets' : sheets_in news ≡ answered.end.sheets
  -- and of the entries alone: this is what their sheets come to
  pub serves : Serves plan dates news
