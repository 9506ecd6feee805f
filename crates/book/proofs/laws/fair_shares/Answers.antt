use Rattle.book.proofs.Kept.{fair_shares}
use Rattle.book.proofs.laws.fair_shares.Goals as goal

pub returns : goal.returns
returns c = fair_shares
