-- How words are read as the rows of a sheet.
use Rattle.std.specs.Prelude.{ℕ, List, [], ◌∷◌, take, drop, sum}
use Rattle.book.specs.Sheets.{Row}

-- a row of spans with these ends and these models
abbrev pub row_from : (ends models : List ℕ) → Row
row_from (end ∷ ends) (model ∷ models) = record { end = end; model = model } ∷ row_from ends models
row_from _ _ = []

-- rows of these lengths: the ends of all spans, row after row, and their models likewise
abbrev pub rows_from : (sizes ends models : List ℕ) → List Row
rows_from [] ends models = []
rows_from (size ∷ sizes) ends models = row_from (take size ends) models ∷ rows_from sizes (drop size ends) (drop size models)

-- the rows that words begin with: how many rows, the length of each, all ends, all models
abbrev pub rows_in : (words : List ℕ) → List Row
rows_in [] = []
rows_in (count ∷ words) =
    let sizes = take count words in
    let ends = drop count words in
    rows_from sizes ends (drop (sum sizes) ends)
