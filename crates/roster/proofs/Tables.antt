-- A row more in the tables.
use Rattle.std.proofs.Common.{◌≡◌, ℕ, ◌+◌, ◌-◌, ◌<◌, ◌≤◌, List, [], ◌∷◌, ◌++◌, length, map, take, drop, take_at, refl, sym, ap, ◌∙◌, arith}
use Rattle.std.specs.Prelude.{sum, slice_set}
use Rattle.std.proofs.Math.Seq.{take-length, take-append-add}
use borrow.Rule.Slice.PartMut.{put_mid}
use Rattle.std.proofs.lemmas.List.{take-append-le, drop-append-le, take_more_set, length-take, length-take-le, length-drop, length-map, map-append}
use Rattle.std.proofs.lemmas.List.Sums.{sum_by-cons}
use Rattle.book.specs.Sheets.{Span as Told}
use Rattle.book.proofs.Rows.{spans_in}
use Rattle.roster.specs.declared.sheet.span.Span.{Span}
use Rattle.roster.specs.declared.sheet.rows.Rows.{Rows}
use Rattle.roster.specs.Tables.{pieces_of, sizes_of, table_of, rows_of}
use Rattle.roster.specs.Spans.{told_by}

sum_of : (n : ℕ) (ns : List ℕ) → sum (n ∷ ns) ≡ n + sum ns
sum_of n ns = sum_by-cons (λ x. x) n ns

no_things : {X : Type 0} (xs : List X) → length xs ≡ 0 → xs ≡ []
no_things [] e = refl
no_things (x ∷ xs) e = absurd (omega arith)

-- a piece more at the end
pieces_more : {X : Type 0} (ns : List ℕ) (n : ℕ) (xs ys : List X) → sum ns ≡ length xs → n ≡ length ys → pieces_of (ns ++ n ∷ []) (xs ++ ys) ≡ pieces_of ns xs ++ ys ∷ []
pieces_more [] n xs ys all one = rw (no_things xs (omega (arith, all)), one) (ap (λ (zs : List _). zs ∷ []) (take-length ys))
pieces_more (m ∷ ns) n xs ys all one =
    let within : m ≤ length xs = omega (arith, sum_of m ns) in
    rw (take-append-le m xs ys within, drop-append-le m xs ys within) (ap (λ (zs : List (List _)). take m xs ∷ zs) (pieces_more ns n (drop m xs) ys (omega (arith, sum_of m ns, length-drop m xs)) one))

pub pieces_count : {X : Type 0} (ns : List ℕ) (xs : List X) → length (pieces_of ns xs) ≡ length ns
pieces_count [] xs = refl
pieces_count (n ∷ ns) xs = let e = pieces_count ns (drop n xs) in omega arith

pieces_spans : (ns : List ℕ) (xs : List Told) → sum ns ≡ length xs → spans_in (pieces_of ns xs) ≡ length xs
pieces_spans [] xs all = omega (arith, all)
pieces_spans (n ∷ ns) xs all = omega (arith, sum_of n ns, length-take n xs, length-drop n xs, pieces_spans ns (drop n xs) (omega (arith, sum_of n ns, length-drop n xs)))

-- things laid behind the first few
laid : {X : Type 0} (old ys : List X) (a n : ℕ) → a ≤ length old → n ≡ length ys → take (a + n) (put_mid a (a + n - a) old ys) ≡ take a old ++ ys
laid old ys a n l e =
    let rest = drop (a + n - a) (drop a old) in
    ap (λ k. take (k + n) (take a old ++ (ys ++ rest))) (sym (length-take-le a old l)) ∙ take-append-add (take a old) (ys ++ rest) n ∙ ap (λ zs. take a old ++ zs) (take_at ys rest n (sym e))

module _ (t : Rows) where
  told_length : length (map told_by (take t.total t.spans)) ≡ t.total
  told_length = omega (arith, length-map (take t.total t.spans) told_by, length-take t.total t.spans, t.small, t.full_spans)

  -- the tables know how many rows and spans they hold
  pub rows_count : length (rows_of t) ≡ length (sizes_of t)
  rows_count = pieces_count (sizes_of t) (map told_by (table_of t))

  pub rows_total : spans_in (rows_of t) ≡ length (table_of t)
  rows_total = pieces_spans (sizes_of t) (map told_by (table_of t)) (t.adds ∙ sym told_length) ∙ length-map (table_of t) told_by

  -- a row more
  pub pushed : (row : List Span) → length (sizes_of t) < 32
      → pieces_of (take (t.count + 1) (slice_set t.sizes t.count (length row))) (map told_by (take (t.total + length row) (put_mid t.total (t.total + length row - t.total) t.spans row))) ≡ rows_of t ++ map told_by row ∷ []
  pushed row few =
      let spans = ap (map told_by) (laid t.spans row t.total (length row) (omega (arith, t.small, t.full_spans)) refl) ∙ map-append told_by (take t.total t.spans) row in
      rw (take_more_set t.sizes t.count (length row) (omega (arith, t.few, t.full_sizes, length-take t.count t.sizes)), spans)
      (pieces_more (sizes_of t) (length row) (map told_by (table_of t)) (map told_by row) (t.adds ∙ sym told_length) (sym (length-map row told_by)))
