-- The number of each fault, the word of each layer, and what a refusal says.
use Rattle.std.specs.Prelude.{◌≡◌, ℕ, zero, suc, Bool, cond, List, ◌++◌, Some, None, Ok, Err, codes, decimal, Option, Result}
use Rattle.refusal.specs.declared.Fault.{Fault}
use Rattle.refusal.specs.declared.Fault.TheVariants.{Short, Long, Size, Period, Cost, Heavy, Full, Spacing, Group, Memory, Model, Moment, Withdrawn, Misfit, Span, Crowded}
use Rattle.refusal.specs.declared.Layer.{Layer}
use Rattle.refusal.specs.declared.Layer.TheVariants.{File, Set, Placement, Opening, Running, Calendar, Agenda}
use Rattle.refusal.specs.declared.memory.Lent.{Lent}
use Rattle.refusal.specs.declared.memory.Lent.TheVariants.{Sheet, Scratch, Text}
use Rattle.refusal.specs.declared.Refusal.{Refusal}

abbrev pub number_of : Fault → ℕ
number_of Short = 1
number_of Long = 2
number_of Size = 3
number_of Period = 4
number_of Cost = 5
number_of Heavy = 6
number_of Full = 7
number_of Spacing = 8
number_of Group = 9
number_of Memory = 10
number_of Model = 11
number_of Moment = 12
number_of Withdrawn = 13
number_of Misfit = 14
number_of Span = 15
number_of Crowded = 16

abbrev pub word_of : Layer → List ℕ
word_of File = codes "file"
word_of Set = codes "set"
word_of Placement = codes "placement"
word_of Opening = codes "opening"
word_of Running = codes "running"
word_of Calendar = codes "calendar"
word_of Agenda = codes "agenda"

abbrev pub place_of_lent : Lent → ℕ
place_of_lent Sheet = 1
place_of_lent Scratch = 2
place_of_lent Text = 3

-- what a refusal says: a number, the layer that found the fault, and a place
pub record Complaint : Type 0 where
  pub number : ℕ
  pub layer : Layer
  pub place : ℕ

abbrev pub told : Refusal → Complaint
told e = record { number = number_of e.fault; layer = e.layer; place = e.place }

-- how it is printed: refused, number, layer, place
abbrev pub complaint_words : Complaint → List ℕ
complaint_words c = codes "refused " ++ decimal c.number ++ codes " " ++ word_of c.layer ++ codes " " ++ decimal c.place

abbrev pub refusal_words : Refusal → List ℕ
refusal_words e = complaint_words (told e)

-- the complaint, unless the test is passed: then what comes after it
abbrev pub check : Bool → Complaint → Option Complaint → Option Complaint
check passed complaint after = cond passed after (Some complaint)

-- the first complaint, if there is one
abbrev pub or_else : Option Complaint → Option Complaint → Option Complaint
or_else None after = after
or_else (Some complaint) after = Some complaint

-- the first complaint about the things 0 to n - 1, taken in their order
abbrev pub first_below : (ℕ → Option Complaint) → ℕ → Option Complaint
first_below about zero = None
first_below about (suc n) = or_else (first_below about n) (about n)

-- a call refuses with the complaint that there is, and else gives what P says
abbrev pub Answers : {A : Type 0} → Option Complaint → Result A Refusal → (A → Type 0) → Type 0
Answers complaint (Ok x) P = (complaint ≡ None) × P x
Answers complaint (Err e) P = complaint ≡ Some (told e)
