-- What tables of records say, and what an event makes of a phase; of these, public contracts cite `phase_at` alone.
use Rattle.std.specs.Prelude.{ℕ, ◌+◌, ◌<◌, ◌^◌, List, slice_index_or, slice_set}
use Rattle.roster.specs.declared.phase.Phase.{Phase}
use Rattle.roster.specs.declared.phase.Phase.TheVariants.{Waiting, Live, Withdrawn}
use Rattle.roster.specs.declared.event.Event.{Event}
use Rattle.roster.specs.declared.event.Event.TheVariants.{Date, Deadline, Service, Withdrawal}
use Rattle.roster.specs.declared.record.Record.{Record}

-- the phase of a model to which this happens
abbrev pub met : Phase → Event → Phase
met Waiting (Date tick) = Live tick 0
met Waiting Deadline = Waiting
met Waiting (Service parts) = Waiting
met Waiting Withdrawal = Withdrawn
met (Live date served) (Date tick) = Live date served
met (Live date served) Deadline = Waiting
met (Live date served) (Service parts) = Live date (served + parts)
met (Live date served) Withdrawal = Withdrawn
met Withdrawn event = Withdrawn

-- what a run has got, and 0 where there is none
abbrev pub served_in : Phase → ℕ
served_in Waiting = 0
served_in (Live date served) = served
served_in Withdrawn = 0

-- only a service needs room
abbrev pub HasRoom : Phase → Event → Type 0
HasRoom phase (Date tick) = Unit {0}
HasRoom phase Deadline = Unit {0}
HasRoom phase (Service parts) = served_in phase + parts < 2 ^ 64
HasRoom phase Withdrawal = Unit {0}

-- what the model in slot k is doing
abbrev pub phase_at : List Record → ℕ → Phase
phase_at records k = (slice_index_or records k (record { phase = Waiting })).phase

-- one record is altered
abbrev pub altered : List Record → ℕ → (Phase → Phase) → List Record
altered records k f = slice_set records k (record { phase = f (phase_at records k) })

-- its date, and 0 where there is none
abbrev pub date_in : Phase → ℕ
date_in Waiting = 0
date_in (Live date served) = date
date_in Withdrawn = 0
