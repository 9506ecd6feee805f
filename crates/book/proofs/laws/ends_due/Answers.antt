use Rattle.book.proofs.Due.{ends_due}
use Rattle.book.proofs.laws.ends_due.Goals as goal

pub returns : goal.returns
returns c = ends_due
