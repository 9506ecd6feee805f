-- Dates that are listed: entries, each a tick and a model.
use Rattle.std.specs.Prelude.{ℕ, ◌+◌, ◌^◌, ◌<◌, All, Bool, not, ◌&&◌, ◌||◌, List, length, take, None, Some, Option, nat_lt, nat_le, ◌==◌, slice_index_or}
use Rattle.std.specs.List.{list_any, list_all}
use Rattle.refusal.specs.Refusals.{Complaint, number_of, check, first_below}
use Rattle.refusal.specs.declared.Fault.TheVariants.{Misfit}
use Rattle.refusal.specs.declared.Layer.TheVariants.{Calendar}
use Rattle.kinds.specs.declared.entries.Entry.{Entry}
use Rattle.dates.specs.Dates.{is_model}
use Rattle.dates.specs.Tables.{at_model}

-- each entry's tick is a date of its model
abbrev pub listed : List Entry → ℕ → ℕ → Bool
listed entries m t = list_any (λ (e : Entry). e.model == m && e.tick == t) entries

-- how far the dates of a model keep apart, by a table of 64
abbrev pub listed_spacings : List ℕ → ℕ → ℕ
listed_spacings = at_model (2 ^ 30)

-- x is not before e, and if they are of one model, it keeps that model's spacing from e
abbrev pub follows : List ℕ → Entry → Entry → Bool
follows spacings e x = nat_le e.tick x.tick && (not (e.model == x.model) || nat_le (e.tick + listed_spacings spacings x.model) x.tick)

-- x is a date that a calendar may have, and fits behind all of these
abbrev pub fits : List ℕ → List Entry → Entry → Bool
fits spacings before x = nat_lt x.tick (2 ^ 30) && is_model x.model && list_all (λ (e : Entry). follows spacings e x) before

-- what is read past the end of a list
abbrev pub no_entry : Entry
no_entry = record { tick = 0; model = 0 }

-- entry i, counted from 0, unless it fits behind those before it
abbrev pub about_entry : List ℕ → List Entry → ℕ → Option Complaint
about_entry spacings entries i =
    check (fits spacings (take i entries) (slice_index_or entries i no_entry)) (record { number = number_of Misfit; layer = Calendar; place = i }) None

-- the first entry that is declined, if one is
abbrev pub about_entries : List ℕ → List Entry → Option Complaint
about_entries spacings entries = first_below (about_entry spacings entries) (length entries)

-- those before the place of a complaint, or all where there is none
abbrev before_fault : List Entry → Option Complaint → List Entry
before_fault entries None = entries
before_fault entries (Some complaint) = take complaint.place entries

-- the entries before the first that is declined
abbrev pub accepted : List ℕ → List Entry → List Entry
accepted spacings entries = before_fault entries (about_entries spacings entries)

-- what a list calendar knows of its ends, and no public contract speaks of: each entry is below the end that a table of 64 has for its model
abbrev pub Ended : List ℕ → List Entry → Type 0
Ended ends entries = All (λ (e : Entry). e.tick < at_model 0 ends e.model) entries
