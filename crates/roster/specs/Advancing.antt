-- What the parts of an advance promise each other; no public contract speaks of it.
use Rattle.std.specs.Prelude.{◌≡◌, ◌≢◌, ℕ, ◌+◌, ◌-◌, ◌^◌, Bool, false, ◌<◌, ◌≤◌, if◌then◌else◌, List, [], ◌∷◌, IsTrue, MatchOption, ◌==◌, Option}
use Rattle.dates.specs.Dates.{Earliest, NoneFrom}
use Rattle.plan.specs.declared.plans.Plan.{Plan}
use Rattle.book.specs.Racks.{rack_of}
use Rattle.book.specs.Sheets.{Row}
use Rattle.book.specs.Books.{is_model_of, group_with}
use Rattle.roster.specs.declared.phase.Phase.{Phase}
use Rattle.roster.specs.declared.phase.Phase.TheVariants.{Waiting, Live, Withdrawn}
use Rattle.roster.specs.declared.event.Event.TheVariants.{Date, Deadline, Service}
use Rattle.roster.specs.declared.record.Record.{Record}
use Rattle.roster.specs.Records.{met, phase_at, served_in}

-- the earliest tick at or after from that passes, if there is one
abbrev pub Soonest : (ℕ → Bool) → ℕ → Option ℕ → Type 0
Soonest passes from result = MatchOption result (NoneFrom passes from) (Earliest passes from)

-- each span ends behind the one before it, the first behind a part, and none names a model above 64
abbrev pub Rises : ℕ → Row → Type 0
Rises from [] = Unit {0}
Rises from (span ∷ row) = (from < span.end) × (span.model ≤ 64) × Rises span.end row

-- the lengths of a row's spans that name model i, from a part on
abbrev pub row_gives : ℕ → Row → ℕ → ℕ
row_gives from [] i = 0
row_gives from (span ∷ row) i = (if span.model == i then span.end - from else 0) + row_gives span.end row i

-- the same of all rows
abbrev pub rows_give : List Row → ℕ → ℕ
rows_give [] i = 0
rows_give (row ∷ rows) i = row_gives 0 row i + rows_give rows i

-- a model that gets parts has room to count them
abbrev pub HasRoomFor : (ℕ → ℕ) → List Record → Type 0
HasRoomFor parts records = (k : ℕ) → k < 64 → 0 < parts (k + 1) → served_in (phase_at records k) + parts (k + 1) < 2 ^ 64

-- each model got its parts
abbrev pub Served : (ℕ → ℕ) → List Record → List Record → Type 0
Served parts old new = (k : ℕ) → k < 64 → phase_at new k ≡ met (phase_at old k) (Service (parts (k + 1)))

-- a run in this phase ends at tick t
abbrev pub is_over : ℕ → ℕ → Phase → Bool
is_over period t Waiting = false
is_over period t (Live date served) = date + period == t
is_over period t Withdrawn = false

-- at tick t a run that ends there ends, and then one may begin
abbrev pub settled : ℕ → Bool → ℕ → Phase → Phase
settled period dated t p = if dated then met (if is_over period t p then met p Deadline else p) (Date t) else if is_over period t p then met p Deadline else p

-- by these dates, at tick t the models of group g are settled, and the others are as they were
abbrev pub Settled : Plan → (ℕ → ℕ → Bool) → ℕ → ℕ → List Record → List Record → Type 0
Settled plan dates g t old new =
    ((i : ℕ) → IsTrue (is_model_of (rack_of plan) i) → group_with (rack_of plan) i ≡ g → phase_at new (i - 1) ≡ settled ((rack_of plan).period i) (dates i t) t (phase_at old (i - 1)))
    × ((i : ℕ) → IsTrue (is_model_of (rack_of plan) i) → group_with (rack_of plan) i ≢ g → phase_at new (i - 1) ≡ phase_at old (i - 1))
