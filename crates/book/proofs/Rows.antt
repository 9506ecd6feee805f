-- Rows: one says who has a worker at each part, and no other does.
use Rattle.std.proofs.Common.{◌≡◌, ◌≢◌, ℕ, zero, suc, ◌+◌, ◌-◌, ◌*◌, ◌<◌, ◌≤◌, Bool, true, false, cond, ◌&&◌, List, [], ◌∷◌, ◌++◌, length, map, sum, inl, inr, refl, sym, ◌∙◌, ap, arith, length-append}
use Rattle.std.specs.Bool.{IsTrue}
use Rattle.std.specs.Prelude.{◌==◌}
use Rattle.std.specs.List.{All, flat_map}
use Rattle.std.proofs.lemmas.Bool.{cases_lt, cases_eq, cases_Bool, lt-ltb, le-ltb, eq-eqb, ne_eqb, false_from_ne_true}
use Rattle.std.proofs.lemmas.Bool.Decides.{nat_tests}
use Rattle.std.proofs.lemmas.List.{length-map}
use Rattle.std.proofs.lemmas.List.Sums.{sum_by-cons}
use Rattle.std.proofs.lemmas.List.Elements.{All-nil, All-cons, All-head, All-tail, All-append, All-map, All-weaker}
use Rattle.book.specs.Sums.{total, latest}
use Rattle.book.specs.Sheets.{Span, Row, Sheet, holder, Tiles, words_of, Says}
use Rattle.book.proofs.Sums.{latest_is, total_le, total_none, at_le_total, total_at_most_one, total_swap}

-- the first span has the parts before its end, and the others have the rest
pub holder_here : (span : Span) (row : Row) (x : ℕ) → x < span.end → holder (span ∷ row) x ≡ span.model
holder_here span row x l = rw (lt-ltb x span.end l) refl

pub holder_past : (span : Span) (row : Row) (x : ℕ) → span.end ≤ x → holder (span ∷ row) x ≡ holder row x
holder_past span row x l = rw (le-ltb x span.end l) refl

pub tiles_le : (from to : ℕ) (row : Row) → Tiles from to row → from ≤ to
tiles_le from to [] t = omega (arith, t)
tiles_le from to (span ∷ []) t = omega (arith, t.0, t.1)
tiles_le from to (span ∷ (next ∷ row)) t = omega (arith, t.0, tiles_le span.end to (next ∷ row) t.2)

-- a row by its first span and the others
pub record Front (from to : ℕ) (span : Span) (row : Row) : Type 0 where
  pub long : from < span.end
  pub rest : Tiles span.end to row
  pub differ : span.end < to → span.model ≢ holder row span.end

first_long : (from to : ℕ) (span : Span) (row : Row) → Tiles from to (span ∷ row) → from < span.end
first_long from to span [] t = t.0
first_long from to span (next ∷ row) t = t.0

pub front_of : (from to : ℕ) (span : Span) (row : Row) → Tiles from to (span ∷ row) → Front from to span row
front_of from to span [] t = record { long = t.0; rest = t.1; differ = λ l. absurd (omega (arith, t.1)) }
front_of from to span (next ∷ row) t = record {
  long = t.0;
  rest = t.2;
  differ = λ l e. t.1 (e ∙ holder_here next row span.end (first_long span.end to next row t.2));
}

pub tiles_of : (from to : ℕ) (span : Span) (row : Row) → Front from to span row → Tiles from to (span ∷ row)
tiles_of from to span [] f = (f.long, f.rest)
tiles_of from to span (next ∷ row) f =
    let long = first_long span.end to next row f.rest in
    let within = tiles_le next.end to row (front_of span.end to next row f.rest).rest in
    (f.long, (λ e. f.differ (omega arith) (e ∙ sym (holder_here next row span.end long))), f.rest)

-- the first span of one of two rows that have the same holders does not end before the other's
not_before : (from to : ℕ) (a b : Span) (r s : Row) → Front from to a r → Front from to b s
    → ((x : ℕ) → from ≤ x → x < to → holder (a ∷ r) x ≡ holder (b ∷ s) x) → a.model ≡ b.model → b.end ≤ a.end
not_before from to a b r s f g same e = elim (cases_lt a.end b.end) [
  | inl before ↦
      let within = tiles_le b.end to s g.rest in
      let there = same a.end (omega (arith, f.long)) (omega arith) in
      absurd (f.differ (omega arith) (e ∙ sym (holder_here b s a.end before) ∙ sym there ∙ holder_past a r a.end (omega arith)))
  | inr other ↦ other
]

-- two rows that tile the same parts are the same if their holders are
same_holders : (from to : ℕ) (r s : Row) → Tiles from to r → Tiles from to s → ((x : ℕ) → from ≤ x → x < to → holder r x ≡ holder s x) → r ≡ s
same_holders from to [] [] t u same = refl
same_holders from to [] (b ∷ s) t u same = let g = front_of from to b s u in absurd (omega (arith, t, g.long, tiles_le b.end to s g.rest))
same_holders from to (a ∷ r) [] t u same = let f = front_of from to a r t in absurd (omega (arith, u, f.long, tiles_le a.end to r f.rest))
same_holders from to (a ∷ r) (b ∷ s) t u same =
    let f = front_of from to a r t in
    let g = front_of from to b s u in
    let within = tiles_le a.end to r f.rest in
    let model : a.model ≡ b.model = sym (holder_here a r from f.long) ∙ same from (omega arith) (omega (arith, f.long)) ∙ holder_here b s from g.long in
    let e : b.end ≡ a.end = omega (arith, not_before from to a b r s f g same model, not_before from to b a s r g f (λ x l m. sym (same x l m)) (sym model)) in
    let others : r ≡ s = same_holders a.end to r s f.rest (rw e at g.rest) (λ x l m. sym (holder_past a r x l) ∙ same x (omega (arith, f.long)) m ∙ holder_past b s x (omega arith)) in
    λ i. record { end = sym e i; model = model i } ∷ others i

-- two numbers are equal if the tests for models cannot tell them apart
same_by_tests : (a b : ℕ) → ((i : ℕ) → 1 ≤ i → (a == i) ≡ (b == i)) → a ≡ b
same_by_tests a b h = elim (cases_eq a b) [
  | inl same ↦ same
  | inr apart ↦ elim (cases_lt 0 a) [
    | inl some ↦ let e = h a some in grind (arith, nat_tests)
    | inr none ↦ let e = h b (omega arith) in grind (arith, nat_tests)
  ]
]

-- only one row says it
pub same_row : (len : ℕ) (has : ℕ → ℕ → Bool) (r s : Row) → Says len has r → Says len has s → r ≡ s
same_row len has r s p q = same_holders 0 len r s p.tiles q.tiles (λ x l m. same_by_tests (holder r x) (holder s x) (λ i k. p.says i x k m ∙ sym (q.says i x k m)))

-- the latest that passes, if it is not 0
latest_tells : (p : ℕ → Bool) (t : ℕ) → 1 ≤ latest p t → IsTrue (p (latest p t))
latest_tells p zero l = absurd (omega arith)
latest_tells p (suc t) l = elim (cases_Bool (p (suc t))) [
  | inl hit ↦ rw hit hit
  | inr miss ↦ rw miss (latest_tells p t (rw miss at l))
]

-- a row that begins one part later, begun sooner
begun_sooner : (from to : ℕ) (row : Row) → from + 1 < to → Tiles (from + 1) to row → Tiles from to row × (holder row from ≡ holder row (from + 1))
begun_sooner from to [] l t = absurd (omega (arith, t))
begun_sooner from to (span ∷ row) l t =
    let f = front_of (from + 1) to span row t in
    let g : Front from to span row = record { long = omega (arith, f.long); rest = f.rest; differ = f.differ } in
    (tiles_of from to span row g, holder_here span row from g.long ∙ sym (holder_here span row (from + 1) f.long))

-- the row gives each part to whom a function says
record Gives (who : ℕ → ℕ) (from to : ℕ) (row : Row) : Type 0 where
  tiles : Tiles from to row
  gives : (x : ℕ) → from ≤ x → x < to → holder row x ≡ who x

-- one part more, given to another model than the next part
gives_more : (who : ℕ → ℕ) (from to : ℕ) (row : Row) → from < to → Gives who (from + 1) to row → (from + 1 < to → who from ≢ who (from + 1)) → (more : Row) × Gives who from to more
gives_more who from to row l later apart =
    let span : Span = record { end = from + 1; model = who from } in (
      span ∷ row,
      record {
        tiles = tiles_of from to span row (record { long = omega arith; rest = later.tiles; differ = λ l e. apart l (e ∙ later.gives (from + 1) (omega arith) l) });
        gives = λ x l m. elim (cases_eq x from) [
          | inl first ↦ holder_here span row x (omega arith) ∙ ap who (sym first)
          | inr other ↦ holder_past span row x (omega arith) ∙ later.gives x (omega arith) m
        ];
      },
    )

-- the same, where the next part is given to the same model
gives_on : (who : ℕ → ℕ) (from to : ℕ) (row : Row) → Gives who (from + 1) to row → from + 1 < to → who from ≡ who (from + 1) → Gives who from to row
gives_on who from to row later l same =
    let sooner = begun_sooner from to row l later.tiles in
    record {
      tiles = sooner.0;
      gives = λ x k m. elim (cases_eq x from) [
        | inl first ↦ ap (holder row) first ∙ sooner.1 ∙ later.gives (from + 1) (omega arith) l ∙ sym same ∙ ap who (sym first)
        | inr other ↦ later.gives x (omega arith) m
      ];
    }

some_gives : (who : ℕ → ℕ) (k from to : ℕ) → from + k ≡ to → (row : Row) × Gives who from to row
some_gives who zero from to e = ([], record { tiles = omega arith; gives = λ x l m. absurd (omega arith) })
some_gives who (suc k) from to e =
    let (row, later) = some_gives who k (from + 1) to (omega arith) in
    elim (cases_lt (from + 1) to) [
      | inr last ↦ gives_more who from to row (omega arith) later (λ l. absurd (omega arith))
      | inl more ↦ elim (cases_eq (who from) (who (from + 1))) [
        | inr apart ↦ gives_more who from to row (omega arith) later (λ l. apart)
        | inl same ↦ (row, gives_on who from to row later more same)
      ]
    ]

-- there is one that says it, if at most one model has the worker at a time
pub some_row : (len n : ℕ) (has : ℕ → ℕ → Bool) → ((i x : ℕ) → IsTrue (has i x) → i ≤ n)
    → ((i j x : ℕ) → 1 ≤ i → 1 ≤ j → x < len → IsTrue (has i x) → IsTrue (has j x) → i ≡ j) → (row : Row) × Says len has row
some_row len n has known one =
    let who = λ (x : ℕ). latest (λ i. has i x) n in
    let (row, made) = some_gives who len 0 len (omega arith) in (
      row,
      record {
        tiles = made.tiles;
        says = λ i x l m. ap (λ a. a == i) (made.gives x (omega arith) m) ∙ elim (cases_Bool (has i x)) [
          | inl hit ↦
              let e : who x ≡ i = latest_is (λ i. has i x) n i (known i x hit) hit (λ j k k'. false_from_ne_true (has j x) (λ h. omega (arith, one i j x l (omega arith) m hit h))) in
              eq-eqb (who x) i e ∙ sym hit
          | inr miss ↦
              ne_eqb (who x) i (λ e. let h = latest_tells (λ i. has i x) n (omega arith) in cc (h, ap (λ j. has j x) e, miss)) ∙ sym miss
        ];
      },
    )

total_rises : (m n : ℕ) (f : ℕ → ℕ) → m ≤ n → total m f ≤ total n f
total_rises m zero f l = let e : m ≡ 0 = omega arith in rw e (omega arith)
total_rises m (suc n) f l = elim (cases_lt n m) [
  | inl last ↦ let e : m ≡ suc n = omega arith in rw e (omega arith)
  | inr below ↦ omega (arith, total_rises m n f below)
]

-- each span but the last ends where the holder changes, and c counts there
spans_by_changes : (from to : ℕ) (span : Span) (row : Row) (c : ℕ → ℕ) → Front from to span row
    → ((x : ℕ) → from < x → x < to → holder (span ∷ row) (x - 1) ≢ holder (span ∷ row) x → 1 ≤ c x)
    → length (span ∷ row) + total (suc from) c ≤ 1 + total to c
spans_by_changes from to span [] c f counts = omega (arith, f.rest, total_rises (suc from) to c (omega (arith, f.long, f.rest)))
spans_by_changes from to span (next ∷ row) c f counts =
    let g = front_of span.end to next row f.rest in
    let within = tiles_le next.end to row g.rest in
    let others = spans_by_changes span.end to next row c g (λ x l m change. counts x (omega (arith, f.long)) m
    (λ e. change (sym (holder_past span (next ∷ row) (x - 1) (omega arith)) ∙ e ∙ holder_past span (next ∷ row) x (omega arith)))) in
    let here = counts span.end f.long (omega (arith, g.long))
    (λ e. f.differ (omega (arith, g.long)) (sym (holder_here span (next ∷ row) (span.end - 1) (omega (arith, f.long))) ∙ e ∙ holder_past span (next ∷ row) span.end (omega arith))) in
    omega (arith, total_rises (suc from) span.end c f.long)

-- a mark is at one part
once : (n mark : ℕ) (there : Bool) → total n (λ x. cond (there && (mark == x)) 1 0) ≤ cond there 1 0
once n mark true = total_at_most_one n (λ x. cond (mark == x) 1 0) (λ x l. grind (arith, nat_tests)) (λ x y l m h k. grind (arith, nat_tests))
once n mark false = omega (arith, total_none n (λ x. 0) (λ x l. refl))

-- at most one span more than there are marks at which the holder changes
pub few_spans : (len n : ℕ) (mark : ℕ → ℕ) (there : ℕ → Bool) (row : Row) → Tiles 0 len row
    → ((x : ℕ) → 1 ≤ x → x < len → holder row (x - 1) ≢ holder row x → (k : ℕ) × ((k < n) × IsTrue (there k) × (mark k ≡ x)))
    → length row ≤ 1 + total n (λ k. cond (there k) 1 0)
few_spans len n mark there [] t marks = omega arith
few_spans len n mark there (span ∷ row) t marks =
    let at = λ (k x : ℕ). cond (there k && (mark k == x)) 1 0 in
    let spans = spans_by_changes 0 len span row (λ x. total n (λ k. at k x)) (front_of 0 len span row t) (λ x l m change.
    let w = marks x l m change in
    let here : at w.0 x ≡ 1 = rw (w.1.1, eq-eqb (mark w.0) x w.1.2) refl in
    omega (arith, at_le_total n (λ k. at k x) w.0 w.1.0)) in
    let each = total_le n (λ k. total len (λ x. at k x)) (λ k. cond (there k) 1 0) (λ k l. once len (mark k) (there k)) in
    omega (arith, total_swap len n (λ x k. at k x))

-- no span ends behind the row
pub ends_within : (from to : ℕ) (row : Row) → Tiles from to row → All (λ (span : Span). span.end ≤ to) row
ends_within from to [] t = All-nil (λ (span : Span). span.end ≤ to)
ends_within from to (span ∷ row) t =
    let f = front_of from to span row t in
    All-cons (λ (span : Span). span.end ≤ to) span row (tiles_le span.end to row f.rest) (ends_within span.end to row f.rest)

models_by_holders : (from to n : ℕ) (row : Row) → Tiles from to row → ((x : ℕ) → from ≤ x → x < to → holder row x ≤ n) → All (λ (span : Span). span.model ≤ n) row
models_by_holders from to n [] t small = All-nil (λ (span : Span). span.model ≤ n)
models_by_holders from to n (span ∷ row) t small =
    let f = front_of from to span row t in
    let within = tiles_le span.end to row f.rest in
    All-cons (λ (span : Span). span.model ≤ n) span row
    (omega (arith, small from (omega arith) (omega (arith, f.long)), holder_here span row from f.long))
    (models_by_holders span.end to n row f.rest (λ x l m. omega (arith, small x (omega (arith, f.long)) m, holder_past span row x l)))

-- a row has no model above those that have the worker
pub models_within : (len n : ℕ) (has : ℕ → ℕ → Bool) (row : Row) → Says len has row → ((i x : ℕ) → IsTrue (has i x) → i ≤ n) → All (λ (span : Span). span.model ≤ n) row
models_within len n has row s known = models_by_holders 0 len n row s.tiles (λ x l m. elim (cases_lt 0 (holder row x)) [
  | inl some ↦ known (holder row x) x (sym (s.says (holder row x) x some m) ∙ eq-eqb (holder row x) (holder row x) refl)
  | inr none ↦ omega arith
])

-- how many spans the rows have together
abbrev pub spans_in : List Row → ℕ
spans_in [] = 0
spans_in (row ∷ rows) = length row + spans_in rows

pub spans_sum : (rows : List Row) → spans_in rows ≡ sum (map {A = Row} length rows)
spans_sum [] = refl
spans_sum (row ∷ rows) =
    let more : sum (map {A = Row} length (row ∷ rows)) ≡ length row + sum (map {A = Row} length rows) = sum_by-cons (λ x. x) (length row) (map {A = Row} length rows) in
    omega (arith, more, spans_sum rows)

-- one word of each span
words_of_spans : (f : Span → ℕ) (rows : List Row) → length (flat_map (map f) rows) ≡ spans_in rows
words_of_spans f [] = refl
words_of_spans f (row ∷ rows) = omega (arith, length-append (map f row) (flat_map (map f) rows), length-map row f, words_of_spans f rows)

-- a sheet has a word for itself, one for each row, and two for each span
pub words_length : (s : Sheet) → length (words_of s) ≡ 1 + length s.rows + 2 * spans_in s.rows
words_length s =
    let ends = flat_map (map (λ (span : Span). span.end)) s.rows in
    let models = flat_map (map (λ (span : Span). span.model)) s.rows in
    omega (
      arith,
      length-append (map {A = Row} length s.rows ++ ends) models,
      length-append (map {A = Row} length s.rows) ends,
      length-map {A = Row} s.rows length,
      words_of_spans (λ span. span.end) s.rows,
      words_of_spans (λ span. span.model) s.rows,
    )

words_of_spans_within : (B : ℕ) (f : Span → ℕ) (rows : List Row) → All (λ (row : Row). All (λ (span : Span). f span ≤ B) row) rows → All (λ w. w ≤ B) (flat_map (map f) rows)
words_of_spans_within B f [] h = All-nil (λ w. w ≤ B)
words_of_spans_within B f (row ∷ rows) h =
    let P = λ (row : Row). All (λ (span : Span). f span ≤ B) row in
    All-append (λ w. w ≤ B) (map f row) (flat_map (map f) rows)
    (All-map (λ w. w ≤ B) f row (All-head P row rows h))
    (words_of_spans_within B f rows (All-tail P row rows h))

-- no word of a sheet is above a bound on its rows, their spans, the ends and the models
pub words_within : (B : ℕ) (s : Sheet) → length s.rows ≤ B
    → All (λ (row : Row). (length row ≤ B) × All (λ (span : Span). (span.end ≤ B) × (span.model ≤ B)) row) s.rows → All (λ w. w ≤ B) (words_of s)
words_within B s few h =
    let P = λ (row : Row). (length row ≤ B) × All (λ (span : Span). (span.end ≤ B) × (span.model ≤ B)) row in
    let W = λ (w : ℕ). w ≤ B in
    let ends = flat_map (map (λ (span : Span). span.end)) s.rows in
    let models = flat_map (map (λ (span : Span). span.model)) s.rows in
    let each = All-map W (λ (row : Row). length row) s.rows (All-weaker P (λ row. length row ≤ B) (λ row p. p.0) s.rows h) in
    let ends_small = words_of_spans_within B (λ span. span.end) s.rows (All-weaker P (λ row. All (λ (span : Span). span.end ≤ B) row) (λ row p k d l. (p.1 k d l).0) s.rows h) in
    let models_small = words_of_spans_within B (λ span. span.model) s.rows (All-weaker P (λ row. All (λ (span : Span). span.model ≤ B) row) (λ row p k d l. (p.1 k d l).1) s.rows h) in
    All-cons W (length s.rows) (map {A = Row} length s.rows ++ ends ++ models) few
    (All-append W (map {A = Row} length s.rows ++ ends) models (All-append W (map {A = Row} length s.rows) ends each ends_small) models_small)
