-- What filling a table with an agenda refuses, and what the table holds afterwards.
use Rattle.std.specs.Prelude.{ℕ, ◌^◌, Bool, ◌&&◌, List, ◌++◌, length, take, drop, None, Option, nat_le}
use Rattle.refusal.specs.Refusals.{Complaint, number_of, place_of_lent, check, or_else}
use Rattle.refusal.specs.declared.Fault.TheVariants.{Memory, Span, Crowded}
use Rattle.refusal.specs.declared.Layer.TheVariants.{Agenda}
use Rattle.refusal.specs.declared.memory.Lent.TheVariants.{Scratch}
use Rattle.kinds.specs.declared.entries.Entry.{Entry}
use Rattle.dates.specs.Agendas.{agenda_of}

-- what is wrong with a span from a up to but without e, or with scratch that has room for so many entries
abbrev pub about_call : ℕ → ℕ → ℕ → Option Complaint
about_call a e room =
    check (nat_le a e && nat_le e (2 ^ 30)) (record { number = number_of Span; layer = Agenda; place = 0 })
    (check (nat_le 64 room) (record { number = number_of Memory; layer = Agenda; place = place_of_lent Scratch }) None)

-- what is wrong with a table of so many entries, for so many dates
abbrev pub about_table : ℕ → ℕ → Option Complaint
about_table entries dates = check (nat_le dates entries) (record { number = number_of Crowded; layer = Agenda; place = entries }) None

-- all that can be wrong, the first fault first
abbrev pub about_filling : (ℕ → ℕ → Bool) → ℕ → ℕ → List Entry → List Entry → Option Complaint
about_filling dates a e table scratch =
    or_else (about_call a e (length scratch)) (about_table (length table) (length (agenda_of dates a e)))

-- the table with as much of the agenda as it has room for, and what it held behind that
abbrev pub filled : List Entry → List Entry → List Entry
filled agenda table = take (length table) agenda ++ drop (length agenda) table
