-- The laws of every list of calls. They say in the subject's own words what the rules come to.
use Rattle.std.specs.Prelude.{◌≡◌, ◌≢◌, ℕ, ◌+◌, ◌-◌, ◌*◌, ◌^◌, ◌<◌, ◌≤◌, ◌⊎◌, ◌↔◌, Bool, IsTrue, IsFalse, All, List, ◌++◌, length, None, pos, ◌-ℤ◌, FitsSigned}
use Rattle.std.specs.Int.{w64}
use Rattle.order.specs.Laws.{OrderLaws}
use Rattle.kinds.specs.declared.runs.Run.{Run}
use Rattle.set.specs.Sets.{HasModel}
use Rattle.plan.specs.declared.plans.Plan.{Plan}
use Rattle.dates.specs.Dates.{CalendarLaws}
use Rattle.standing.specs.declared.Phase.TheVariants.{Live}
use Rattle.standing.specs.Standings.{Report, phase_number}
use Rattle.book.specs.Racks.{Rack, rack_of, is_divided}
use Rattle.book.specs.Sheets.{Sheet, HasLength, workers_with, got, words_of}
use Rattle.book.specs.Reading.{rows_in}
use Rattle.book.specs.Books.{Book, blank, group_with, present_of, AtRest}
use Rattle.book.specs.Calls.{Call, Advance, Withdraw, AskStanding, Answer, Advanced, Withdrew, Stands, Step, Leads, about_opening}

-- what a roster is opened over: a plan, and a lawful calendar and order, where no two dates of a model lie nearer than its period
pub record Lawful (plan : Plan) (dates : ℕ → ℕ → Bool) (spacings : ℕ → ℕ) (precedes : Run → Run → Bool) : Type 0 where
  pub calendar : CalendarLaws dates spacings
  pub order : OrderLaws (λ (r : Run). r.model) (λ (r : Run). r.deadline) precedes
  pub spaced : about_opening (rack_of plan) spacings ≡ None

-- a law holds over all that a roster can be opened over
abbrev pub Always : (Plan → (ℕ → ℕ → Bool) → (Run → Run → Bool) → Type 0) → Type 0
Always Law = (plan : Plan) (dates : ℕ → ℕ → Bool) (spacings : ℕ → ℕ) (precedes : Run → Run → Bool) → Lawful plan dates spacings precedes → Law plan dates precedes

-- a sheet fits 287 words of 64 bits, and its ticks and its first worker fit 32
pub record FitsWords (s : Sheet) : Type 0 where
  pub short : length (words_of s) ≤ 287
  pub narrow : All (λ w. w < 2 ^ 64) (words_of s)
  pub start' : s.start < 2 ^ 32
  pub end' : s.end < 2 ^ 32
  pub first' : s.first < 2 ^ 32

-- what is said of a model fits the fields of a standing
pub record FitsFields (report : Report) : Type 0 where
  pub date' : report.date < 2 ^ 32
  pub served' : report.served < 2 ^ 64
  pub lag' : FitsSigned w64 report.lag

-- the words of a sheet, whatever stands behind them, are read as its rows
abbrev pub WordsRead : Type 0
WordsRead = (s : Sheet) (behind : List ℕ) → rows_in (words_of s ++ behind) ≡ s.rows

module _ (plan : Plan) (dates : ℕ → ℕ → Bool) (precedes : Run → Run → Bool) where
  abbrev rack : Rack
  rack = rack_of plan

  abbrev LeadsTo : Book → List Call → List Answer → Book → Type 0
  LeadsTo = Leads rack dates precedes

  abbrev StepsTo : Book → Call → Answer → Book → Type 0
  StepsTo = Step rack dates precedes

  -- calls have led from the blank book to this one
  pub record Reached (b : Book) : Type 0 where
    pub calls : List Call
    pub answers : List Answer
    pub led : LeadsTo blank calls answers b

  -- what the calls answer, and the book that they lead to; there are no other answers and no other book
  pub record Answered (calls : List Call) : Type 0 where
    pub answers : List Answer
    pub end : Book
    pub led : LeadsTo blank calls answers end
    pub only : (others : List Answer) (other : Book) → LeadsTo blank calls others other → (others ≡ answers) × (other ≡ end)

  -- model i of the plan is not withdrawn
  pub record Remains (b : Book) (i : ℕ) : Type 0 where
    pub from_one : 1 ≤ i
    pub to_last : i ≤ rack.models
    pub kept : IsFalse (b.withdrawn i)

  -- it has a run, which began at its date d
  pub record HasRun (b : Book) (i d : ℕ) : Type 0 where
    pub remains : Remains b i
    pub date : IsTrue (dates i d)
    pub begun : d ≤ present_of rack b i
    pub goes : present_of rack b i < d + rack.period i

  -- tick t is ahead of group g, and is a date of one of its models, or the deadline of one of their runs
  pub record Due (b : Book) (g t : ℕ) : Type 0 where
    pub ahead : b.present g < t
    pub who : ℕ
    pub remains : Remains b who
    pub here : group_with rack who ≡ g
    pub why : IsTrue (dates who t) ⊎ ((d : ℕ) × (HasRun b who d × (d + rack.period who ≡ t)))

  -- 1. every list of calls has its answers, and no others
  abbrev pub OneAnswer : Type 0
  OneAnswer = (calls : List Call) → Answered calls

  -- 2. in each interval a divided model that has a run gets exactly its weight times the interval's ticks, whatever calls follow
  abbrev pub FairShares : Type 0
  FairShares =
      (b c e : Book) → Reached b → (g words things : ℕ) (s : Sheet) → StepsTo b (Advance g words things) (Advanced s) c
      → (calls : List Call) (answers : List Answer) → LeadsTo c calls answers e
      → (i d : ℕ) → group_with rack i ≡ g → IsTrue (is_divided (rack.pieces i)) → HasRun b i d
      → got rack.grain e.sheets i (s.start * rack.grain) (s.end * rack.grain) ≡ rack.weight i * (s.end - s.start)

  -- 3. at no part of time is a model on two workers
  abbrev pub OneWorker : Type 0
  OneWorker = (b : Book) → Reached b → (i x : ℕ) → HasModel plan.set i → workers_with rack.grain b.sheets i x ≤ 1

  -- 4. where a model is not withdrawn when its group has come to the deadline of a date, that date's run gets exactly its parts between the two, whatever calls follow
  abbrev pub WholeRuns : Type 0
  WholeRuns =
      (b c : Book) → Reached b → (calls : List Call) (answers : List Answer) → LeadsTo b calls answers c
      → (i d : ℕ) → Remains b i → IsTrue (dates i d) → d + rack.period i ≤ present_of rack b i
      → got rack.grain c.sheets i (d * rack.grain) ((d + rack.period i) * rack.grain) ≡ rack.parts i

  -- a date of model i, and a part of all time between it and its deadline
  pub record Within (i x : ℕ) : Type 0 where
    pub date : ℕ
    pub dated : IsTrue (dates i date)
    pub begun : date * rack.grain ≤ x
    pub goes : x < (date + rack.period i) * rack.grain

  -- 5. a worker has a model only between a date of it and the deadline
  abbrev pub OnlyRuns : Type 0
  OnlyRuns = (b : Book) → Reached b → (i x : ℕ) → HasModel plan.set i → 1 ≤ workers_with rack.grain b.sheets i x → Within i x

  -- 6. from its withdrawal on a model gets nothing
  abbrev pub NoneWithdrawn : Type 0
  NoneWithdrawn =
      (b c e : Book) → Reached b → (i : ℕ) → StepsTo b (Withdraw i) Withdrew c → (calls : List Call) (answers : List Answer) → LeadsTo c calls answers e
      → (x : ℕ) → present_of rack b i * rack.grain ≤ x → workers_with rack.grain e.sheets i x ≡ 0

  -- an advance takes group g from its present to the first tick at which something is due, and no other group
  pub record Passes (b c : Book) (g : ℕ) (s : Sheet) : Type 0 where
    pub from : s.start ≡ b.present g
    pub due : Due b g s.end
    pub first : (t : ℕ) → Due b g t → s.end ≤ t
    pub to : c.present g ≡ s.end
    pub others : (h : ℕ) → h ≢ g → c.present h ≡ b.present h

  -- 7. so does every advance whose interval has a length, and a group is at rest just where nothing is due
  abbrev pub EndsDue : Type 0
  EndsDue =
      (b : Book) → Reached b → (g : ℕ)
      → ((c : Book) (words things : ℕ) (s : Sheet) → StepsTo b (Advance g words things) (Advanced s) c → HasLength s → Passes b c g s)
      × (AtRest rack dates b g ↔ ((t : ℕ) → Due b g t → ⊥))

  -- 8. every advance goes on
  abbrev pub GoesOn : Type 0
  GoesOn = (b c : Book) → Reached b → (g words things : ℕ) (s : Sheet) → StepsTo b (Advance g words things) (Advanced s) c → HasLength s

  -- a report tells the run that model i has since d: the parts that the sheets gave it since, and how far they are ahead of an even pace
  pub record Tells (b : Book) (i d : ℕ) (report : Report) : Type 0 where
    pub phase' : report.phase ≡ phase_number Live
    pub date' : report.date ≡ d
    pub served' : report.served ≡ got rack.grain b.sheets i (d * rack.grain) (present_of rack b i * rack.grain)
    pub lag' : report.lag ≡ pos report.served -ℤ pos (rack.weight i * (present_of rack b i - d))
    -- a divided run is neither ahead nor behind
    pub even : IsTrue (is_divided (rack.pieces i)) → report.lag ≡ pos 0

  -- 9. a standing tells the run of a model that has one
  abbrev pub StandingsTell : Type 0
  StandingsTell =
      (b c : Book) → Reached b → (i d : ℕ) → HasRun b i d
      → (report : Report) → StepsTo b (AskStanding i) (Stands report) c → Tells b i d report

  -- 10. every sheet of an interval that has a length fits
  abbrev pub SheetsFit : Type 0
  SheetsFit = (b c : Book) → Reached b → (g words things : ℕ) (s : Sheet) → StepsTo b (Advance g words things) (Advanced s) c → HasLength s → FitsWords s

  -- 11. every standing fits
  abbrev pub StandingsFit : Type 0
  StandingsFit = (b c : Book) → Reached b → (i : ℕ) (report : Report) → StepsTo b (AskStanding i) (Stands report) c → FitsFields report

  -- 12. a sheet of such an interval depends on no date of another group, and on none behind its end: over other dates that are the same there, it is the same
  abbrev pub SameUpToEnd : Type 0
  SameUpToEnd =
      (other : ℕ → ℕ → Bool) (b c : Book) (g words things : ℕ) (s : Sheet) → StepsTo b (Advance g words things) (Advanced s) c → HasLength s
      → ((i t : ℕ) → group_with rack i ≡ g → t ≤ s.end → other i t ≡ dates i t) → Step rack other precedes b (Advance g words things) (Advanced s) c
