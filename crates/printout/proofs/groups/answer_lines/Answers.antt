use Rattle.printout.proofs.Pages.{appends_append}
use Rattle.printout.proofs.groups.answer_lines.Goals as goal

pub returns-in-Ok : goal.returns-in-Ok
returns-in-Ok c = rw c.in-Ok.is (appends_append _ _ _ _ _ c.line.ensures c.row_lines.ensures)
