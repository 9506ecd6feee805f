-- What the records say of the runs of a worker; no public contract speaks of it.
use Rattle.std.specs.Prelude.{◌≡◌, ℕ, ◌+◌, ◌-◌, Bool, true, false, ◌&&◌, List, Option, MatchOption, IsTrue, IsFalse}
use Rattle.kinds.specs.declared.runs.Run.{Run}
use Rattle.plan.specs.declared.plans.Plan.{Plan}
use Rattle.roster.specs.declared.sheet.ends.Ends.{Ends}
use Rattle.roster.specs.Dividing.{IsAtEnd, AreEnds}
use Rattle.roster.specs.Waiting.{runs_of}
use Rattle.book.specs.Sums.{up_to}
use Rattle.book.specs.Racks.{rack_of, whole_on}
use Rattle.book.specs.Books.{is_model_of}
use Rattle.book.specs.Turns.{head_of, tail_of}
use Rattle.roster.specs.declared.phase.Phase.{Phase}
use Rattle.roster.specs.declared.phase.Phase.TheVariants.{Waiting, Live, Withdrawn}
use Rattle.roster.specs.declared.record.Record.{Record}
use Rattle.roster.specs.Records.{phase_at, date_in, served_in}

-- a model in this phase has a run
abbrev pub is_live_in : Phase → Bool
is_live_in Waiting = false
is_live_in (Live date served) = true
is_live_in Withdrawn = false

-- the first pieces on worker p, or the second pieces, take so many parts of a tick
abbrev pub parts_at : Plan → Bool → ℕ → ℕ
parts_at plan second p = up_to (rack_of plan).models (λ i. head_of second p ((rack_of plan).pieces i))

module _ (plan : Plan) (records : List Record) where
  -- model i has a run
  abbrev pub has_run : ℕ → Bool
  has_run i = is_model_of (rack_of plan) i && is_live_in (phase_at records (i - 1))

  -- and is whole on worker p
  abbrev pub waits_on : ℕ → ℕ → Bool
  waits_on p i = has_run i && whole_on p ((rack_of plan).pieces i)

  -- its run, as the order sees it
  abbrev pub run_in : ℕ → Run
  run_in i = record {
    model = i;
    deadline = date_in (phase_at records (i - 1)) + (rack_of plan).period i;
    remaining = (rack_of plan).parts i - served_in (phase_at records (i - 1));
  }

  -- the runs that wait for worker p
  abbrev pub waiting_on : ℕ → List Run
  waiting_on p = runs_of (waits_on p) run_in (rack_of plan).models

  -- it is the run of model i, if that waits for worker p
  abbrev pub IsWaiting : ℕ → ℕ → Option Run → Type 0
  IsWaiting p i result = MatchOption result (IsFalse (waits_on p i)) (λ run. IsTrue (waits_on p i) × (run ≡ run_in i))

  -- m is the live model that has a first piece on worker p, or a second piece, or 0 if there is none
  abbrev pub StandsAt : Bool → ℕ → ℕ → Type 0
  StandsAt second p m = IsAtEnd has_run (λ i. head_of second p ((rack_of plan).pieces i)) m

  -- the ends of worker p in an interval of D ticks
  abbrev pub EndsOf : Bool → ℕ → ℕ → Ends → Type 0
  EndsOf mirrored p D ends = AreEnds has_run (λ i. head_of mirrored p ((rack_of plan).pieces i)) (λ i. tail_of mirrored p ((rack_of plan).pieces i)) (rack_of plan).models (rack_of plan).grain D ends
