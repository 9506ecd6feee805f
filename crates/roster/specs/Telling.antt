-- Which books are a roster's.
use Rattle.std.specs.Prelude.{◌≡◌, ℕ, ◌-◌, Bool, false, if◌then◌else◌, List, IsTrue, slice_index, slice_index_or}
use Rattle.kinds.specs.declared.runs.Run.{Run}
use Rattle.plan.specs.declared.plans.Plan.{Plan}
use Rattle.book.specs.Racks.{Rack, rack_of}
use Rattle.book.specs.Books.{Book, is_model_of, is_live, date_of, served}
use Rattle.book.specs.Calls.{is_group}
use Rattle.book.specs.Laws.{Reached}
use Rattle.roster.specs.declared.phase.Phase.{Phase}
use Rattle.roster.specs.declared.phase.Phase.TheVariants.{Waiting, Live, Withdrawn}
use Rattle.roster.specs.declared.record.Record.{Record}
use Rattle.roster.specs.Records.{phase_at}

-- what the book says that a model is doing
abbrev pub phase_of : Rack → (ℕ → ℕ → Bool) → Book → ℕ → Phase
phase_of rack dates b i =
    if b.withdrawn i then Withdrawn
    else if is_live rack dates b i then Live (date_of rack dates b i) (served rack dates b i)
    else Waiting

-- these records hold what the book says
abbrev pub Phases : Plan → (ℕ → ℕ → Bool) → Book → List Record → Type 0
Phases plan dates b records = (i : ℕ) → IsTrue (is_model_of (rack_of plan) i) → phase_at records (i - 1) ≡ phase_of (rack_of plan) dates b i

module _ (plan : Plan) (dates : ℕ → ℕ → Bool) (precedes : Run → Run → Bool) (presents : List ℕ) (mirrored : List Bool) (records : List Record) where
  -- calls have led to this book, and all these are what it says
  pub record IsBook (b : Book) : Type 0 where
    pub reached : Reached plan dates precedes b
    pub present' : (g : ℕ) → IsTrue (is_group (rack_of plan) g) → slice_index presents (g - 1) ≡ b.present g
    pub mirrored' : (g : ℕ) → IsTrue (is_group (rack_of plan) g) → slice_index_or mirrored (g - 1) false ≡ b.mirrored g
    pub phases : Phases plan dates b records

  -- there is such a book
  abbrev pub HasBook : Type 0
  HasBook = (b : Book) × IsBook b
