use Rattle.book.proofs.Reading.{words_read}
use Rattle.book.proofs.laws.words_read.Goals as goal

pub returns : goal.returns
returns c = words_read
