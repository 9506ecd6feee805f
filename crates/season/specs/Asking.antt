-- What is asked of a roster and what it answers, in the book's words.
use Rattle.std.specs.Prelude.{◌≡◌, ℕ, List}
use Rattle.refusal.specs.Refusals.{Complaint, told}
use Rattle.refusal.specs.declared.Refusal.{Refusal}
use Rattle.kinds.specs.declared.runs.Run.{Run}
use Rattle.standing.specs.Standings.{Report, reported}
use Rattle.standing.specs.declared.Standing.{Standing}
use Rattle.book.specs.Sheets.{Sheet}
use Rattle.book.specs.Calls.{Call as Asked, Withdraw, AskStanding, Answer as Given, Advanced, Withdrew, Stands, Refused, numbers_of}
use Rattle.book.specs.Buffers.{Leaves}
use Rattle.roster.specs.Keeping.{advance_of}
use Rattle.season.specs.declared.call.Call.{Call}
use Rattle.season.specs.declared.call.Call.TheVariants as call
use Rattle.season.specs.declared.answer.Answer.{Answer}
use Rattle.season.specs.declared.answer.Answer.TheVariants as answer

-- a call that is lent these words for the sheet, and this scratch
abbrev pub asked : Call → (words : List ℕ) (scratch : List Run) → Asked
asked (call.Advance group) words scratch = advance_of group words scratch
asked (call.Withdraw model) words scratch = Withdraw model
asked (call.Standing model) words scratch = AskStanding model

-- an answer says what the book answers
pub data IsAnswer : Answer → Given → Type 0 where
  advanced : (start end first written : ℕ) (s : Sheet) → (start, end, first, written) ≡ numbers_of s → IsAnswer (answer.Advanced start end first written) (Advanced s)
  withdrew : IsAnswer answer.Withdrew Withdrew
  stands : (standing : Standing) (report : Report) → reported standing ≡ report → IsAnswer (answer.Stands standing) (Stands report)
  refused : (refusal : Refusal) (complaint : Complaint) → told refusal ≡ complaint → IsAnswer (answer.Refused refusal) (Refused complaint)

-- what a call answers, and leaves in the memory that it was lent, is what the book gives
pub record Gives (answer : Answer) (words words' : List ℕ) (scratch scratch' : List Run) (given : Given) : Type 0 where
  pub is : IsAnswer answer given
  pub leaves : Leaves given words words' scratch scratch'
