-- The words of rows, from the tables that hold them.
use Rattle.std.proofs.Common.{◌≡◌, ℕ, ◌+◌, ◌-◌, ◌<◌, ◌≤◌, List, [], ◌∷◌, ◌++◌, length, map, take, drop, sum, refl, ap, sym, ◌∙◌, append_assoc, drop-drop, take_at, drop_at, length-append, length-drop, arith}
use Rattle.std.specs.List.{flat_map}
use Rattle.std.proofs.lemmas.List.{length-map, length-take-le, take-append-drop, map-append, set_split}
use Rattle.std.proofs.lemmas.List.Sums.{sum_by-cons}
use Rattle.std.proofs.lemmas.Simd.{map-map}
use Rattle.std.proofs.Math.ListN.{set}
use borrow.Rule.Slice.PartMut.{put_mid}
use Rattle.book.specs.Sheets.{Span as Told, Row}
use Rattle.roster.specs.declared.sheet.span.Span.{Span}
use Rattle.roster.specs.Spans.{told_by}
use Rattle.roster.specs.Tables.{pieces_of, words_in}
use Rattle.roster.proofs.Tables.{pieces_count}

module _ {X : Type 0} where
  -- each piece has its length
  lengths_of_pieces : (ns : List ℕ) (xs : List X) → sum ns ≡ length xs → map (length {A = X}) (pieces_of ns xs) ≡ ns
  lengths_of_pieces [] xs e = refl
  lengths_of_pieces (n ∷ ns) xs e =
      let all : n + sum ns ≡ length xs = sym (sum_by-cons (λ x. x) n ns) ∙ e in
      let here : length (take n xs) ≡ n = length-take-le n xs (omega arith) in
      let others = lengths_of_pieces ns (drop n xs) (omega (arith, length-drop n xs)) in
      cc

  -- and the pieces, put together again, are the list
  joined_pieces : {Y : Type 0} (f : X → Y) (ns : List ℕ) (xs : List X) → sum ns ≡ length xs → flat_map (map f) (pieces_of ns xs) ≡ map f xs
  joined_pieces f [] [] e = refl
  joined_pieces f [] (x ∷ xs) e = absurd (omega (arith, e))
  joined_pieces f (n ∷ ns) xs e =
      let all : n + sum ns ≡ length xs = sym (sum_by-cons (λ x. x) n ns) ∙ e in
      let others = joined_pieces f ns (drop n xs) (omega (arith, length-drop n xs)) in
      ap (λ ys. map f (take n xs) ++ ys) others ∙ sym (map-append f (take n xs) (drop n xs)) ∙ ap (map f) (take-append-drop n xs)

-- the words of the rows that lie behind one another in a table
pub words_of_pieces : (ns : List ℕ) (spans : List Span) → sum ns ≡ length spans
    → words_in (pieces_of ns (map told_by spans)) ≡ (((length ns ∷ []) ++ ns) ++ map (λ (span : Span). span.end) spans) ++ map (λ (span : Span). span.model) spans
words_of_pieces ns spans e =
    let rows = pieces_of ns (map told_by spans) in
    let all : sum ns ≡ length (map told_by spans) = e ∙ sym (length-map spans told_by) in
    let many : length rows ≡ length ns = pieces_count ns (map told_by spans) in
    let sizes : map {A = Row} length rows ≡ ns = lengths_of_pieces ns (map told_by spans) all in
    let ends : flat_map (map (λ (span : Told). span.end)) rows ≡ map (λ (span : Span). span.end) spans = joined_pieces (λ (span : Told). span.end) ns (map told_by spans) all ∙ map-map (λ (span : Told). span.end) told_by spans in
    let models : flat_map (map (λ (span : Told). span.model)) rows ≡ map (λ (span : Span). span.model) spans = joined_pieces (λ (span : Told). span.model) ns (map told_by spans) all ∙ map-map (λ (span : Told). span.model) told_by spans in
    cc

-- what was written so far, and then the words of the next part
put_next : (old front ys : List ℕ) (a b : ℕ) → length front ≡ a → length ys ≡ b - a → a ≤ b → put_mid a (b - a) (front ++ drop a old) ys ≡ (front ++ ys) ++ drop b old
put_next old front ys a b e f l =
    let first : take a (front ++ drop a old) ≡ front = take_at front (drop a old) a e in
    let last : drop (b - a) (drop a (front ++ drop a old)) ≡ drop b old = ap (drop (b - a)) (drop_at front (drop a old) a e) ∙ drop-drop (b - a) a old ∙ ap (λ n. drop n old) (omega arith) in
    rw (first, last) (sym (append_assoc front ys (drop b old)))

-- the count, the sizes, the ends and the models one behind the other, and the words behind stay
pub written : (old : List ℕ) (c t : ℕ) (sizes ends models : List ℕ) → 0 < length old → length sizes ≡ c → length ends ≡ t → length models ≡ t
    → put_mid (1 + c + t) (1 + c + t + t - (1 + c + t)) (put_mid (1 + c) (1 + c + t - (1 + c)) (put_mid 1 (1 + c - 1) (set old 0 c) sizes) ends) models
    ≡ ((((c ∷ []) ++ sizes) ++ ends) ++ models) ++ drop (1 + c + t + t) old
written old c t sizes ends models l e f g =
    let first : set old 0 c ≡ (c ∷ []) ++ drop 1 old = set_split old 0 c l in
    let second = put_next old (c ∷ []) sizes 1 (1 + c) refl (omega arith) (omega arith) in
    let third = put_next old ((c ∷ []) ++ sizes) ends (1 + c) (1 + c + t) (omega arith) (omega arith) (omega arith) in
    let fourth = put_next old (((c ∷ []) ++ sizes) ++ ends) models (1 + c + t) (1 + c + t + t) (omega (arith, length-append sizes ends)) (omega arith) (omega arith) in
    ap (λ s. put_mid (1 + c + t) (1 + c + t + t - (1 + c + t)) (put_mid (1 + c) (1 + c + t - (1 + c)) (put_mid 1 (1 + c - 1) s sizes) ends) models) first
    ∙ ap (λ s. put_mid (1 + c + t) (1 + c + t + t - (1 + c + t)) (put_mid (1 + c) (1 + c + t - (1 + c)) s ends) models) second
    ∙ ap (λ s. put_mid (1 + c + t) (1 + c + t + t - (1 + c + t)) s models) third
    ∙ fourth
