use Rattle.book.proofs.Later.{same_up_to_end}
use Rattle.book.proofs.laws.same_up_to_end.Goals as goal

pub returns : goal.returns
returns c = same_up_to_end
