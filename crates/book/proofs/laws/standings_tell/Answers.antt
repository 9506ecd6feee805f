use Rattle.book.proofs.Kept.{standings_tell}
use Rattle.book.proofs.laws.standings_tell.Goals as goal

pub returns : goal.returns
returns c = standings_tell
