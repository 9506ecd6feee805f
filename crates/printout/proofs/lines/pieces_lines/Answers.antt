use Rattle.printout.proofs.Pages.{appends_append}
use Rattle.printout.proofs.lines.pieces_lines.Goals as goal

pub returns-in-Divided : goal.returns-in-Divided
returns-in-Divided c = rw c.in-Divided.is (appends_append _ _ _ _ _ c.line-in-Divided.ensures c.line-in-Divided-2.ensures)
