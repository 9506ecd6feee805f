use Rattle.book.proofs.Due.{goes_on}
use Rattle.book.proofs.laws.goes_on.Goals as goal

pub returns : goal.returns
returns c = goes_on
