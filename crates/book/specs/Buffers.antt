-- What a call leaves in the memory that it is lent: words for a sheet, and scratch.
use Rattle.std.specs.Prelude.{◌≡◌, ℕ, List, ◌++◌, length, drop}
use Rattle.book.specs.Sheets.{words_of}
use Rattle.book.specs.Calls.{Answer, Advanced}

-- the words of an accepted advance's sheet, and behind them what stood there; after any other answer all is as it was
abbrev pub words_after : Answer → List ℕ → List ℕ
words_after (Advanced s) words = words_of s ++ drop (length (words_of s)) words
words_after _ words = words

-- after an accepted advance the scratch holds anything, and keeps its length; after any other answer it is as it was
abbrev pub ScratchAfter : {X : Type 0} → Answer → List X → List X → Type 0
ScratchAfter (Advanced s) old new = length new ≡ length old
ScratchAfter _ old new = new ≡ old

-- a call that is answered so leaves these words for those, and this scratch for that
pub record Leaves {X : Type 0} (answer : Answer) (words words' : List ℕ) (scratch scratch' : List X) : Type 0 where
  pub in_words : words' ≡ words_after answer words
  pub in_scratch : ScratchAfter answer scratch scratch'
