-- The words of a sheet are read as its rows.
use Rattle.std.proofs.Common.{◌≡◌, ℕ, ◌+◌, List, [], ◌∷◌, ◌++◌, length, map, take, drop, sum, refl, ap, ◌∙◌, append_assoc, take_at, drop_at, length-append, arith}
use Rattle.std.proofs.lemmas.List.{length-map}
use Rattle.std.proofs.lemmas.List.Sums.{sum_by-cons}
use Rattle.std.specs.List.{flat_map}
use Rattle.book.specs.Sheets.{Row, Span}
use Rattle.book.specs.Reading.{row_from, rows_from}
use Rattle.book.specs.Laws.{WordsRead}

abbrev ends_of : Row → List ℕ
ends_of = map (λ (span : Span). span.end)

abbrev models_of : Row → List ℕ
models_of = map (λ (span : Span). span.model)

row_back : (row : Row) (more : List ℕ) → row_from (ends_of row) (models_of row ++ more) ≡ row
row_back [] more = refl
row_back (span ∷ row) more = λ i. span ∷ row_back row more i

rows_back : (rows : List Row) (xs ys : List ℕ) → rows_from (map length rows) (flat_map ends_of rows ++ xs) (flat_map models_of rows ++ ys) ≡ rows
rows_back [] xs ys = refl
rows_back (row ∷ rows) xs ys =
    let es = append_assoc (ends_of row) (flat_map ends_of rows) xs in
    let ms = append_assoc (models_of row) (flat_map models_of rows) ys in
    let front = ap (take (length row)) es ∙ take_at (ends_of row) (flat_map ends_of rows ++ xs) (length row) (length-map row (λ (span : Span). span.end)) in
    let later = ap (drop (length row)) es ∙ drop_at (ends_of row) (flat_map ends_of rows ++ xs) (length row) (length-map row (λ (span : Span). span.end)) in
    let later' = ap (drop (length row)) ms ∙ drop_at (models_of row) (flat_map models_of rows ++ ys) (length row) (length-map row (λ (span : Span). span.model)) in
    let one : row_from (take (length row) (ends_of row ++ flat_map ends_of rows ++ xs)) (models_of row ++ flat_map models_of rows ++ ys) ≡ row =
    ap (λ zs. row_from zs (models_of row ++ flat_map models_of rows ++ ys)) front ∙ ap (row_from (ends_of row)) ms ∙ row_back row (flat_map models_of rows ++ ys) in
    let others : rows_from (map length rows) (drop (length row) (ends_of row ++ flat_map ends_of rows ++ xs)) (drop (length row) (models_of row ++ flat_map models_of rows ++ ys)) ≡ rows =
    ap (λ zs. rows_from (map length rows) zs (drop (length row) (models_of row ++ flat_map models_of rows ++ ys))) later ∙ ap (rows_from (map length rows) (flat_map ends_of rows ++ xs)) later' ∙ rows_back rows xs ys in
    λ i. one i ∷ others i

-- as many ends as the rows have spans
ends_long : (rows : List Row) → length (flat_map ends_of rows) ≡ sum (map length rows)
ends_long [] = refl
ends_long (row ∷ rows) =
    let long : length (flat_map ends_of (row ∷ rows)) ≡ length (ends_of row) + length (flat_map ends_of rows) = length-append (ends_of row) (flat_map ends_of rows) in
    let more : sum (map {A = Row} length (row ∷ rows)) ≡ length row + sum (map {A = Row} length rows) = sum_by-cons (λ x. x) (length row) (map {A = Row} length rows) in
    omega (arith, long, more, length-map row (λ (span : Span). span.end), ends_long rows)

pub words_read : WordsRead
words_read s behind =
    let sizes = map {A = Row} length s.rows in
    let es = flat_map ends_of s.rows in
    let ms = flat_map models_of s.rows in
    let words = sizes ++ es ++ ms ++ behind in
    let many : length sizes ≡ length s.rows = length-map {A = Row} s.rows length in
    let whole = append_assoc (sizes ++ es) ms behind ∙ append_assoc sizes es (ms ++ behind) in
    let front : take (length s.rows) words ≡ sizes = ap (take (length s.rows)) whole ∙ take_at sizes (es ++ (ms ++ behind)) (length s.rows) many in
    let back : drop (length s.rows) words ≡ es ++ (ms ++ behind) = ap (drop (length s.rows)) whole ∙ drop_at sizes (es ++ (ms ++ behind)) (length s.rows) many in
    let last : drop (sum sizes) (es ++ (ms ++ behind)) ≡ ms ++ behind = drop_at es (ms ++ behind) (sum sizes) (ends_long s.rows) in
    ap (λ zs. rows_from zs (drop (length s.rows) words) (drop (sum zs) (drop (length s.rows) words))) front
    ∙ ap (λ zs. rows_from sizes zs (drop (sum sizes) zs)) back
    ∙ ap (rows_from sizes (es ++ (ms ++ behind))) last
    ∙ rows_back s.rows (ms ++ behind) behind
