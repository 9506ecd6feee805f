use Rattle.book.proofs.Kept.{whole_runs}
use Rattle.book.proofs.laws.whole_runs.Goals as goal

pub returns : goal.returns
returns c = whole_runs
