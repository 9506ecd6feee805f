use Rattle.book.proofs.Kept.{one_worker}
use Rattle.book.proofs.laws.one_worker.Goals as goal

pub returns : goal.returns
returns c = one_worker
