use Rattle.book.proofs.Kept.{standings_fit}
use Rattle.book.proofs.laws.standings_fit.Goals as goal

pub returns : goal.returns
returns c = standings_fit
