use Rattle.std.proofs.Common.{◌+◌, drop}
use Rattle.book.specs.Reading.{rows_in}
use Rattle.printout.specs.Texts.{rows_text}
use Rattle.printout.proofs.Sheets.{Rows}
use Rattle.printout.proofs.groups.row_lines.Given as goal

abbrev pub invariant-loop-k : goal.invariant-loop-k
invariant-loop-k l = Rows l.fn.page (rows_text l.first (rows_in l.words)) (l.first + l.k) (drop l.k l.sizes) l.ends l.models l.page
