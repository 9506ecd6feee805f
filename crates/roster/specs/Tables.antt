-- The rows that a table holds, and their words; no public contract speaks of it.
use Rattle.std.specs.Prelude.{ℕ, List, [], ◌∷◌, map, take, drop}
use Rattle.book.specs.Sheets.{Row, words_of}
use Rattle.roster.specs.declared.sheet.span.Span.{Span}
use Rattle.roster.specs.declared.sheet.rows.Rows.{Rows}
use Rattle.roster.specs.Spans.{told_by}

-- a list in pieces of these lengths
abbrev pub pieces_of : {X : Type 0} → List ℕ → List X → List (List X)
pieces_of [] xs = []
pieces_of (n ∷ ns) xs = take n xs ∷ pieces_of ns (drop n xs)

-- how many spans each row has
abbrev pub sizes_of : Rows → List ℕ
sizes_of t = take t.count t.sizes

-- the spans of all rows
abbrev pub table_of : Rows → List Span
table_of t = take t.total t.spans

-- the rows, as the book has them
abbrev pub rows_of : Rows → List Row
rows_of t = pieces_of (sizes_of t) (map told_by (table_of t))

-- the words of rows
abbrev pub words_in : List Row → List ℕ
words_in rows = words_of (record { group = 0; start = 0; end = 0; first = 0; rows = rows })
