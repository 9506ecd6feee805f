-- When something is due for a group; no public contract speaks of it.
use Rattle.std.specs.Prelude.{◌≡◌, ◌≢◌, ℕ, zero, suc, ◌+◌, ◌-◌, ◌<◌, ◌^◌, Bool, false, if◌then◌else◌, List, IsTrue, None, Some, Option, min, ◌==◌, slice_index_or}
use Rattle.plan.specs.declared.plans.Plan.{Plan}
use Rattle.book.specs.Racks.{Rack, rack_of}
use Rattle.book.specs.Books.{is_model_of, group_with}
use Rattle.roster.specs.declared.phase.Phase.{Phase}
use Rattle.roster.specs.declared.phase.Phase.TheVariants.{Waiting, Live, Withdrawn}
use Rattle.roster.specs.declared.record.Record.{Record}
use Rattle.roster.specs.Records.{phase_at}
use Rattle.roster.specs.Advancing.{Soonest}

-- the earlier of two ticks, either of which may be missing
abbrev pub earlier : Option ℕ → Option ℕ → Option ℕ
earlier None b = b
earlier (Some x) None = Some x
earlier (Some x) (Some y) = Some (min x y)

-- the earliest of those of 1 .. n
abbrev pub earliest_of : ℕ → (ℕ → Option ℕ) → Option ℕ
earliest_of zero f = None
earliest_of (suc n) f = earlier (earliest_of n f) (f (n + 1))

-- where the run of a phase ends, and 0 where there is none
abbrev pub deadline_in : ℕ → Phase → ℕ
deadline_in period Waiting = 0
deadline_in period (Live date served) = date + period
deadline_in period Withdrawn = 0

-- the next moment of a model in a phase, whose earliest date to come is this
abbrev pub moment_of : ℕ → Phase → Option ℕ → Option ℕ
moment_of period Waiting coming = coming
moment_of period (Live date served) coming = earlier coming (Some (date + period))
moment_of period Withdrawn coming = None

-- the earliest date to come of the model in a slot, by a table of them
abbrev pub coming_at : List (Option ℕ) → ℕ → Option ℕ
coming_at table k = slice_index_or table k None

-- it is this tick
abbrev pub is_at : ℕ → Option ℕ → Bool
is_at t None = false
is_at t (Some d) = d == t

-- the dates that the table tells of
abbrev pub dates_in : List (Option ℕ) → ℕ → ℕ → Bool
dates_in table i t = is_at t (coming_at table (i - 1))

module _ (plan : Plan) where
  abbrev rack : Rack
  rack = rack_of plan

  -- the table has the earliest dates from a tick on, of the models of group g that are not withdrawn
  abbrev pub Comes : (ℕ → ℕ → Bool) → List Record → ℕ → ℕ → List (Option ℕ) → Type 0
  Comes dates records g from table =
      (i : ℕ) → IsTrue (is_model_of rack i) → group_with rack i ≡ g → phase_at records (i - 1) ≢ Withdrawn → Soonest (dates i) from (coming_at table (i - 1))

  -- by these records, the deadlines of group g fit 32 bits
  abbrev pub DeadlinesFit : List Record → ℕ → Type 0
  DeadlinesFit records g = (i : ℕ) → IsTrue (is_model_of rack i) → group_with rack i ≡ g → deadline_in (rack.period i) (phase_at records (i - 1)) < 2 ^ 32

  -- the next moment of those of the first n models that are in group g, by records and such a table
  abbrev pub next_of : List Record → List (Option ℕ) → ℕ → ℕ → Option ℕ
  next_of records table g n =
      earliest_of n (λ i. if group_with rack i == g then moment_of (rack.period i) (phase_at records (i - 1)) (coming_at table (i - 1)) else None)

  -- and of the group
  abbrev pub next_by : List Record → List (Option ℕ) → ℕ → Option ℕ
  next_by records table g = next_of records table g rack.models
