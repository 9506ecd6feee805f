use Rattle.book.proofs.Only.{only_runs}
use Rattle.book.proofs.laws.only_runs.Goals as goal

pub returns : goal.returns
returns c = only_runs
