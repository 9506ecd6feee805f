-- The rows of a sheet: a test that computes tells that they say who has each worker.
use Rattle.std.proofs.Common.{◌≡◌, ℕ, ◌+◌, ◌-◌, ◌*◌, ◌<◌, ◌≤◌, Bool, ◌&&◌, not, List, true, false, [], ◌∷◌, refl, sym, subst, inl, inr, ◌∙◌, arith}
use Rattle.std.specs.Bool.{◌==◌, nat_lt, nat_le}
use Rattle.std.specs.List.{list_all}
use Rattle.std.proofs.lemmas.Bool.{agree_below, agree_below_at, and_parts, cases_lt, cond_both, leb-true, le-leb, lt-leb, ne_eqb, eqb-true, eqb-false, ltb-true, not-true}
use Rattle.kinds.specs.declared.runs.Run.{Run}
use Rattle.book.specs.Racks.{Rack}
use Rattle.book.specs.Sheets.{holder, Span, Row, Tiles}
use Rattle.book.specs.Books.{Book}
use Rattle.book.specs.Turns.{has, IsRow, AreRows}

-- the row names none but the first n models
abbrev names_below : ℕ → Row → Bool
names_below n = list_all (λ (span : Span). nat_le span.model n)

holder_le : (n : ℕ) (row : Row) (x : ℕ) → names_below n row ≡ true → holder row x ≤ n
holder_le n [] x h = omega arith
holder_le n (span ∷ row) x h =
    let parts = and_parts (nat_le span.model n) (names_below n row) h in
    cond_both (nat_lt x span.end) span.model (holder row x) (λ m. m ≤ n) (λ _. leb-true span.model n parts.0) (λ _. holder_le n row x parts.1)

module _ (rack : Rack) (dates : ℕ → ℕ → Bool) (precedes : Run → Run → Bool) (b : Book) (D p : ℕ) (row : Row) where
  abbrev names : ℕ → ℕ → Bool
  names i x = holder row x == i

  abbrev wants : ℕ → ℕ → Bool
  wants = has rack dates precedes b D p

  -- the row is right about model i at each part of the interval
  abbrev is_right : ℕ → Bool
  is_right i = agree_below (names i) (wants i) (rack.grain * D)

  -- and so about each model
  abbrev all_right : Bool
  all_right = agree_below (λ k. is_right (k + 1)) (λ k. true) rack.models

  right_at : (i x : ℕ) → all_right ≡ true → 1 ≤ i → i ≤ rack.models → x < rack.grain * D → names i x ≡ wants i x
  right_at i x right l m n =
      let right_by = agree_below_at (λ k. is_right (k + 1)) (λ k. true) rack.models (i - 1) right (omega arith) in
      let back : i - 1 + 1 ≡ i = omega arith in
      agree_below_at (names i) (wants i) (rack.grain * D) x (subst (λ k. is_right k ≡ true) back right_by) n

  -- no other number is a model's
  right_beyond : (i x : ℕ) → names_below rack.models row ≡ true → 1 ≤ i → rack.models < i → names i x ≡ wants i x
  right_beyond i x known l h =
      let none : wants i x ≡ false = rw (le-leb 1 i l, lt-leb i rack.models h) refl in
      ne_eqb (holder row x) i (λ e. omega (arith, holder_le rack.models row x known)) ∙ sym none

  -- the row says who has the worker
  is_row : Tiles 0 (rack.grain * D) row → names_below rack.models row ≡ true → all_right ≡ true → IsRow rack dates precedes b D p row
  is_row tiles known right = record {
    tiles = tiles;
    says = λ i x some l. elim (cases_lt rack.models i) [
      | inl beyond ↦ right_beyond i x known some beyond
      | inr below ↦ right_at i x right some below l
    ];
  }

-- the spans have a length, and neighbours differ
abbrev tiles : ℕ → ℕ → Row → Bool
tiles from to [] = from == to
tiles from to (span ∷ []) = nat_lt from span.end && span.end == to
tiles from to (span ∷ (next ∷ row)) = nat_lt from span.end && (not (span.model == next.model) && tiles span.end to (next ∷ row))

are_tiles : (from to : ℕ) (row : Row) → tiles from to row ≡ true → Tiles from to row
are_tiles from to [] h = eqb-true from to h
are_tiles from to (span ∷ []) h = let both = and_parts _ _ h in (ltb-true from span.end both.0, eqb-true span.end to both.1)
are_tiles from to (span ∷ (next ∷ row)) h =
    let first = and_parts (nat_lt from span.end) _ h in
    let rest = and_parts (not (span.model == next.model)) (tiles span.end to (next ∷ row)) first.1 in
    (ltb-true from span.end first.0, eqb-false span.model next.model (not-true _ rest.0), are_tiles span.end to (next ∷ row) rest.1)

module _ (rack : Rack) (dates : ℕ → ℕ → Bool) (precedes : Run → Run → Bool) (b : Book) (D : ℕ) where
  -- so do the rows of the workers from p on
  abbrev pub all_rows : ℕ → List Row → Bool
  all_rows p [] = true
  all_rows p (row ∷ rows) = tiles 0 (rack.grain * D) row && (names_below rack.models row && (all_right rack dates precedes b D p row && all_rows (p + 1) rows))

  pub are_rows : (p : ℕ) (rows : List Row) → all_rows p rows ≡ true → AreRows rack dates precedes b D p rows
  are_rows p [] h = tt
  are_rows p (row ∷ rows) h =
      let first = and_parts (tiles 0 (rack.grain * D) row) _ h in
      let known = and_parts (names_below rack.models row) _ first.1 in
      let right = and_parts (all_right rack dates precedes b D p row) (all_rows (p + 1) rows) known.1 in
      (is_row rack dates precedes b D p row (are_tiles 0 (rack.grain * D) row first.0) known.0 right.0, are_rows (p + 1) rows right.1)
