-- What each call answers, and the book after it.
use Rattle.std.specs.Prelude.{◌≡◌, ℕ, ◌+◌, ◌-◌, ◌*◌, Bool, if◌then◌else◌, not, List, [], ◌∷◌, length, None, Some, Option, pos, ◌-ℤ◌, nat_le}
use Rattle.refusal.specs.Refusals.{Complaint, number_of, place_of_lent, check, first_below}
use Rattle.refusal.specs.declared.Fault.{Fault}
use Rattle.refusal.specs.declared.Fault.TheVariants.{Spacing, Group, Memory, Model, Moment, Withdrawn}
use Rattle.refusal.specs.declared.Layer.TheVariants.{Opening, Running}
use Rattle.refusal.specs.declared.memory.Lent.TheVariants.{Sheet as SheetMemory, Scratch}
use Rattle.set.specs.Limits.{within}
use Rattle.kinds.specs.declared.runs.Run.{Run}
use Rattle.standing.specs.declared.Phase.{Phase}
use Rattle.standing.specs.declared.Phase.TheVariants as phase
use Rattle.standing.specs.Standings.{Report, phase_number}
use Rattle.book.specs.Racks.{Rack}
use Rattle.book.specs.Sheets.{Sheet, words_of}
use Rattle.book.specs.Books.{Book, entered, without, is_model_of, present_of, date_of, is_live, served, AtRest}
use Rattle.book.specs.Turns.{IsNext}

-- an advance is lent so many words for the sheet, and scratch for so many things
pub data Call : Type 0 where
  Advance : (group words things : ℕ) → Call
  Withdraw : (model : ℕ) → Call
  AskStanding : (model : ℕ) → Call

pub data Answer : Type 0 where
  Advanced : (sheet : Sheet) → Answer
  Withdrew : Answer
  Stands : (report : Report) → Answer
  Refused : (complaint : Complaint) → Answer

-- what an advance answers of its sheet: where it starts and ends, its first worker, and how many words it has
abbrev pub numbers_of : Sheet → ℕ × ℕ × ℕ × ℕ
numbers_of s = (s.start, s.end, s.first, length (words_of s))

-- what is said of a model without a run
abbrev pub quiet : Phase → Report
quiet p = record { phase = phase_number p; date = 0; served = 0; lag = pos 0 }

-- a complaint of the layer that plans are run by
abbrev pub running : Fault → ℕ → Complaint
running fault place = record { number = number_of fault; layer = Running; place = place }

module _ (rack : Rack) where
  -- the first model whose dates may lie nearer than its period, by the calendar's spacings
  abbrev pub about_opening : (ℕ → ℕ) → Option Complaint
  about_opening spacings = first_below (λ k. check (nat_le (rack.period (k + 1)) (spacings (k + 1))) (record { number = number_of Spacing; layer = Opening; place = k + 1 }) None) rack.models

  -- groups are numbered from 1 up to that of the last worker
  abbrev pub is_group : ℕ → Bool
  is_group g = within 1 (rack.group rack.workers) g

  abbrev about_model : ℕ → Option Complaint → Option Complaint
  about_model i after = check (is_model_of rack i) (running Model i) after

  -- all that can be wrong with a call before anything is done, the first fault first
  abbrev pub about : Book → Call → Option Complaint
  about b (Advance g words things) =
      check (is_group g) (running Group g)
      (check (nat_le 512 words) (running Memory (place_of_lent SheetMemory))
      (check (nat_le 64 things) (running Memory (place_of_lent Scratch)) None))
  about b (Withdraw i) = about_model i (check (not (b.withdrawn i)) (running Withdrawn i) None)
  about b (AskStanding i) = about_model i None

  -- what a group at rest is told
  abbrev pub no_moment : ℕ → Complaint
  no_moment = running Moment

  module _ (dates : ℕ → ℕ → Bool) where
    -- how a model stands; the lag of a run is what it got less what an even pace would have given it, its weight at each tick since its date
    abbrev pub standing_of : Book → ℕ → Report
    standing_of b i =
        if b.withdrawn i then quiet phase.Withdrawn
        else if is_live rack dates b i then record {
          phase = phase_number phase.Live;
          date = date_of rack dates b i;
          served = served rack dates b i;
          lag = pos (served rack dates b i) -ℤ pos (rack.weight i * (present_of rack b i - date_of rack dates b i));
        }
        else quiet phase.Waiting

    module _ (precedes : Run → Run → Bool) where
      -- a call at a book, its answer, and the book after it
      pub data Step (b : Book) : Call → Answer → Book → Type 0 where
        declines : (call : Call) (complaint : Complaint) → about b call ≡ Some complaint → Step b call (Refused complaint) b
        advances : (g words things : ℕ) (s : Sheet) → about b (Advance g words things) ≡ None → IsNext rack dates precedes b g s → Step b (Advance g words things) (Advanced s) (entered b s)
        rests : (g words things : ℕ) → about b (Advance g words things) ≡ None → AtRest rack dates b g → Step b (Advance g words things) (Refused (no_moment g)) b
        withdraws : (i : ℕ) → about b (Withdraw i) ≡ None → Step b (Withdraw i) Withdrew (without b i)
        stands : (i : ℕ) → about b (AskStanding i) ≡ None → Step b (AskStanding i) (Stands (standing_of b i)) b

      -- calls one after another, from one book to another
      pub data Leads : Book → List Call → List Answer → Book → Type 0 where
        ends : (b : Book) → Leads b [] [] b
        goes : (b c e : Book) (call : Call) (answer : Answer) (calls : List Call) (answers : List Answer) → Step b call answer c → Leads c calls answers e → Leads b (call ∷ calls) (answer ∷ answers) e
