-- What a span more makes of a row that says who has the worker so far.
use Rattle.std.proofs.Common.{◌≡◌, ◌≢◌, ℕ, ◌+◌, ◌<◌, ◌≤◌, Bool, List, [], ◌∷◌, ◌++◌, length, map, take, get_or, append_assoc, inl, inr, refl, sym, ap, ◌∙◌, arith}
use Rattle.std.specs.Prelude.{◌==◌}
use Rattle.std.proofs.lemmas.Bool.{cases_eq, cases_lt, eq-eqb, ne_eqb}
use Rattle.book.specs.Sheets.{Span, Row, holder, Tiles, Says}
use Rattle.std.proofs.lemmas.List.{take_more, take_more_set, map-append}
use Rattle.std.proofs.Math.ListN.{set}
use Rattle.book.proofs.Rows.{holder_here, holder_past, tiles_le, front_of, tiles_of}
use Rattle.roster.specs.declared.sheet.span.Span.{Span as TheSpan}
use Rattle.roster.specs.Spans.{given, told_by}

-- a row goes on up to a later part, as it was before
record Goes (from at to model : ℕ) (row more : Row) : Type 0 where
  tiles : Tiles from to more
  before : (x : ℕ) → from ≤ x → x < at → holder more x ≡ holder row x
  here : (x : ℕ) → at ≤ x → x < to → holder more x ≡ model

goes : (from at to model : ℕ) (row : Row) → Tiles from at row → at < to → Goes from at to model row (given row to model)
goes from at to model [] t l = record {
  tiles = (omega (arith, t), refl);
  before = λ x k m. absurd (omega (arith, t));
  here = λ x k m. holder_here (record { end = to; model = model }) [] x m;
}
goes from at to model (span ∷ []) t l = elim (cases_eq span.model model) [
  | inl same ↦ rw (eq-eqb span.model model same) (record {
    tiles = (omega (arith, t.0, t.1), refl);
    before = λ x k m. holder_here (record { end = to; model = model }) [] x (omega arith) ∙ sym same ∙ sym (holder_here span [] x (omega (arith, t.1)));
    here = λ x k m. holder_here (record { end = to; model = model }) [] x m;
  })
  | inr other ↦ let new : Span = record { end = to; model = model } in rw (ne_eqb span.model model other) (record {
    tiles = (t.0, other, (omega (arith, t.1), refl));
    before = λ x k m. holder_here span (new ∷ []) x (omega (arith, t.1)) ∙ sym (holder_here span [] x (omega (arith, t.1)));
    here = λ x k m. holder_past span (new ∷ []) x (omega (arith, t.1)) ∙ holder_here new [] x m;
  })
]
goes from at to model (span ∷ (next ∷ row)) t l =
    let rest = goes span.end at to model (next ∷ row) t.2 l in
    let f = front_of from at span (next ∷ row) t in
    let more = given (next ∷ row) to model in
    let onward = front_of span.end at next row t.2 in
    let long = onward.long in
    let within = tiles_le next.end at row onward.rest in
    record {
      tiles = tiles_of from to span more (record { long = t.0; rest = rest.tiles; differ = λ m e. f.differ (omega arith) (e ∙ rest.before span.end (omega arith) (omega arith)) });
      before = λ x k m. elim (cases_lt x span.end) [
        | inl early ↦ holder_here span more x early ∙ sym (holder_here span (next ∷ row) x early)
        | inr late ↦ holder_past span more x late ∙ rest.before x late m ∙ sym (holder_past span (next ∷ row) x late)
      ];
      here = λ x k m. holder_past span more x (omega arith) ∙ rest.here x k m;
    }

-- what says who has the worker up to a part says it up to a later one, once the model that has it between the two is given it
pub says_given : (at to model : ℕ) (has : ℕ → ℕ → Bool) (row : Row) → Says at has row → at < to → ((i x : ℕ) → 1 ≤ i → at ≤ x → x < to → (model == i) ≡ has i x) → Says to has (given row to model)
says_given at to model has row says l is =
    let g = goes 0 at to model row says.tiles l in
    record {
      tiles = g.tiles;
      says = λ i x some m. elim (cases_lt x at) [
        | inl early ↦ ap (λ h. h == i) (g.before x (omega arith) early) ∙ says.says i x some early
        | inr late ↦ ap (λ h. h == i) (g.here x late m) ∙ is i x some late m
      ];
    }

-- a span more behind a last one
pub given_last : (row : Row) (span : Span) (end model : ℕ) → given (row ++ span ∷ []) end model ≡ row ++ given (span ∷ []) end model
given_last [] span end model = refl
given_last (a ∷ []) span end model = refl
given_last (a ∷ (b ∷ row)) span end model = ap (λ r. a ∷ r) (given_last (b ∷ row) span end model)

module _ (spans : List TheSpan) (d : TheSpan) (n end model : ℕ) where
  abbrev new : TheSpan
  new = record { end = end; model = model }

  -- the spans, up to the one in place n, if there is one
  upto : n < length spans → map told_by (take (n + 1) spans) ≡ map told_by (take n spans) ++ told_by (get_or spans n d) ∷ []
  upto l = ap (map told_by) (take_more spans n d l) ∙ map-append told_by (take n spans) (get_or spans n d ∷ [])

  put : n < length spans → map told_by (take (n + 1) (set spans n new)) ≡ map told_by (take n spans) ++ told_by new ∷ []
  put l = ap (map told_by) (take_more_set spans n new l) ∙ map-append told_by (take n spans) (new ∷ [])

  -- the last span is of this model, and ends later now
  pub gives_on : n < length spans → (get_or spans n d).model ≡ model → map told_by (take (n + 1) (set spans n new)) ≡ given (map told_by (take (n + 1) spans)) end model
  gives_on l same = put l ∙ sym (ap (λ r. given r end model) (upto l) ∙ given_last (map told_by (take n spans)) (told_by (get_or spans n d)) end model ∙ rw (eq-eqb (get_or spans n d).model model same) refl)

  -- the last span is of another model, or there is none
  pub gives_first : n < length spans → n ≡ 0 → map told_by (take (n + 1) (set spans n new)) ≡ given (map told_by (take n spans)) end model
  gives_first l none = put l ∙ rw none refl

module _ (spans : List TheSpan) (d : TheSpan) (n end model : ℕ) where
  pub gives_more : n + 1 < length spans → (get_or spans n d).model ≢ model → map told_by (take (n + 1 + 1) (set spans (n + 1) (record { end = end; model = model }))) ≡ given (map told_by (take (n + 1) spans)) end model
  gives_more l other =
      let front = map told_by (take n spans) in
      let last = told_by (get_or spans n d) in
      put spans d (n + 1) end model l ∙ ap (λ r. r ++ record { end = end; model = model } ∷ []) (upto spans d n end model (omega arith)) ∙ append_assoc front (last ∷ []) (record { end = end; model = model } ∷ [])
      ∙ sym (ap (λ r. given r end model) (upto spans d n end model (omega arith)) ∙ given_last front last end model ∙ rw (ne_eqb (get_or spans n d).model model other) refl)
