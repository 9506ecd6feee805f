use Rattle.book.proofs.Kept.{sheets_fit}
use Rattle.book.proofs.laws.sheets_fit.Goals as goal

pub returns : goal.returns
returns c = sheets_fit
