use Rattle.book.proofs.Exists.{answered}
use Rattle.book.proofs.laws.one_answer.Goals as goal

pub returns : goal.returns
returns c = answered
