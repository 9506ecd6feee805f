use Rattle.book.proofs.Only.{none_withdrawn}
use Rattle.book.proofs.laws.none_withdrawn.Goals as goal

pub returns : goal.returns
returns c = none_withdrawn
