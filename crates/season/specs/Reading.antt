-- What a runner reads in the entries of a list of calls: the sheets that they hold.
use Rattle.std.specs.Prelude.{ℕ, List, [], ◌∷◌, ◌++◌, Some, Option}
use Rattle.book.specs.Sheets.{Sheet}
use Rattle.book.specs.Reading.{rows_in}
use Rattle.season.specs.declared.call.Call.{Call}
use Rattle.season.specs.declared.call.Call.TheVariants.{Advance}
use Rattle.season.specs.declared.answer.Answer.{Answer}
use Rattle.season.specs.declared.answer.Answer.TheVariants.{Advanced}
use Rattle.season.specs.declared.entry.Entry.{Entry}

-- the sheet of an advance: its group stands in the call, its ticks and first worker in the answer, and its rows in the words with which the memory begins
abbrev pub sheet_in : Call → Option Answer → (words : List ℕ) → List Sheet
sheet_in (Advance group) (Some (Advanced start end first written)) words = record { group = group; start = start; end = end; first = first; rows = rows_in words } ∷ []
sheet_in _ _ words = []

-- the sheets that entries hold, in order; an entry that was answered otherwise holds none
abbrev pub sheets_in : List Entry → List Sheet
sheets_in [] = []
sheets_in (entry ∷ entries) = sheet_in entry.call entry.answer entry.sheet.now ++ sheets_in entries
