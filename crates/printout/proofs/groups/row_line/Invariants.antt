use Rattle.printout.specs.Texts.{row_text}
use Rattle.book.specs.Reading.{row_from}
use Rattle.printout.proofs.Rows.{Spans}
use Rattle.printout.proofs.groups.row_line.Given as goal

abbrev pub invariant-loop-end : goal.invariant-loop-end
invariant-loop-end l = Spans l.fn.page (row_text l.worker (row_from l.ends l.models)) l.end-iterator.a.rest.now l.end-iterator.b.rest.now l.page
