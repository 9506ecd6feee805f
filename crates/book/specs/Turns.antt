-- The rule of a sheet: who has a worker at each part of an interval.
use Rattle.std.specs.Prelude.{◌≡◌, ℕ, ◌+◌, ◌-◌, ◌*◌, Bool, if◌then◌else◌, not, ◌&&◌, ◌||◌, List, [], ◌∷◌, length, nat_lt, nat_le}
use Rattle.kinds.specs.declared.runs.Run.{Run}
use Rattle.plan.specs.declared.pieces.Pieces.{Pieces}
use Rattle.plan.specs.Groups.{Group}
use Rattle.dates.specs.Dates.{Earliest}
use Rattle.book.specs.Sums.{up_to}
use Rattle.book.specs.Racks.{Rack, whole_on, first_on, second_on}
use Rattle.book.specs.Sheets.{Row, Sheet, Says}
use Rattle.book.specs.Books.{Book, is_live, left, run_of, is_moment}

-- the size of a piece that comes first on worker p, and of one that comes last: a mirror swaps the two
abbrev pub head_of : Bool → ℕ → Pieces → ℕ
head_of mirrored p x = if mirrored then second_on p x else first_on p x

abbrev pub tail_of : Bool → ℕ → Pieces → ℕ
tail_of mirrored p x = head_of (not mirrored) p x

-- the two pieces of worker p
module _ (rack : Rack) (b : Book) (p : ℕ) where
  abbrev mirror : Bool
  mirror = b.mirrored (rack.group p)

  -- the sizes of the pieces of model i that come first there, and last
  abbrev pub head : ℕ → ℕ
  head i = head_of mirror p (rack.pieces i)

  abbrev pub tail : ℕ → ℕ
  tail i = tail_of mirror p (rack.pieces i)

  -- in an interval of D ticks, undivided runs have the parts from here up to but without `closes`; a piece whose model has no run keeps its parts, idle
  abbrev pub opens : ℕ → ℕ
  opens D = up_to rack.models head * D

  abbrev pub closes : ℕ → ℕ
  closes D = (rack.grain - up_to rack.models tail) * D

-- model i has a run, undivided, on worker p
abbrev pub takes_turns : Rack → (ℕ → ℕ → Bool) → Book → ℕ → ℕ → Bool
takes_turns rack dates b p i = is_live rack dates b i && whole_on p (rack.pieces i)

module _ (rack : Rack) (dates : ℕ → ℕ → Bool) (precedes : Run → Run → Bool) (b : Book) where
  -- what the undivided runs of worker p that precede that of model i still need
  abbrev pub ahead : ℕ → ℕ → ℕ
  ahead p i = up_to rack.models (λ j. if takes_turns rack dates b p j && precedes (run_of rack dates b j) (run_of rack dates b i) then left rack dates b j else 0)

  -- of an interval of D ticks, on worker p
  module _ (D p : ℕ) where
    -- part x is of the piece of model i that comes first, of the one that comes last, or of its undivided run
    abbrev pub in_head : ℕ → ℕ → Bool
    in_head i x = nat_lt x (head rack b p i * D)

    abbrev pub in_tail : ℕ → ℕ → Bool
    in_tail i x = nat_le ((rack.grain - tail rack b p i) * D) x

    abbrev pub in_turn : ℕ → ℕ → Bool
    in_turn i x =
        whole_on p (rack.pieces i)
        && nat_le (opens rack b p D + ahead p i) x
        && nat_lt x (opens rack b p D + ahead p i + left rack dates b i)
        && nat_lt x (closes rack b p D)

    -- model i has the worker at part x
    abbrev pub has : ℕ → ℕ → Bool
    has i x = is_live rack dates b i && (in_head i x || in_tail i x || in_turn i x)

    -- the row of this worker
    abbrev pub IsRow : Row → Type 0
    IsRow = Says (rack.grain * D) has

  -- the rows of the workers from p on
  abbrev pub AreRows : ℕ → ℕ → List Row → Type 0
  AreRows D p [] = Unit {0}
  AreRows D p (row ∷ rows) = IsRow D p row × AreRows D (p + 1) rows

  -- the sheet that takes group g from its present to its next moment
  pub record IsNext (g : ℕ) (s : Sheet) : Type 0 where
    pub group' : s.group ≡ g
    pub start' : s.start ≡ b.present g
    pub moment : Earliest (is_moment rack dates b g) (b.present g + 1) s.end
    -- the group's workers are those from the first to the last, and each has a row
    pub last : ℕ
    pub workers : Group rack.group rack.workers g s.first last
    pub all : s.first + length s.rows ≡ last + 1
    pub rows' : AreRows (s.end - s.start) s.first s.rows
