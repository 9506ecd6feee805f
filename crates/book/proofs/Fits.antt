-- A sheet fits its words, and a standing its fields.
use Rattle.std.proofs.Common.{◌≡◌, ◌≢◌, ℕ, zero, suc, ◌+◌, ◌-◌, ◌*◌, ◌^◌, ◌<◌, ◌≤◌, Bool, true, false, cond, not, ◌&&◌, ◌||◌, min, List, [], ◌∷◌, length, ◌⊎◌, inl, inr, refl, ap, sym, ◌∙◌, add-mul, zero-add, add-zero, mul-le-mul_right, arith}
use Rattle.std.proofs.Math.Nat.{suc-add}
use Rattle.std.specs.Prelude.{pos, ◌-ℤ◌, FitsSigned}
use Rattle.std.specs.Int.{w64}
use Rattle.std.specs.List.{All}
use Rattle.std.specs.Bool.{IsTrue, nat_lt, nat_le, ◌==◌}
use Rattle.std.proofs.lemmas.Bool.{cases_lt, cases_Bool, and_from, cond_both, or_left, or_right, lt-ltb, le-leb, eqb-true, eq-eqb}
use Rattle.std.proofs.lemmas.Bool.Decides.{nat_tests}
use Rattle.std.proofs.lemmas.List.Elements.{All-nil, All-cons, All-weaker}
use Rattle.std.proofs.lemmas.Nat.{mul-le}
use Rattle.std.proofs.lemmas.Int.{ints}
use Rattle.order.specs.Laws.{OrderLaws}
use Rattle.dates.specs.Dates.{CalendarLaws}
use Rattle.standing.specs.declared.Phase.{Phase}
use Rattle.standing.specs.declared.Phase.TheVariants as phase
use Rattle.standing.specs.Standings.{phase_number}
use Rattle.kinds.specs.declared.runs.Run.{Run}
use Rattle.plan.specs.declared.pieces.Pieces.{Pieces}
use Rattle.plan.specs.declared.pieces.Pieces.TheVariants.{Whole, Divided}
use Rattle.plan.specs.Shares.{worker_of}
use Rattle.book.specs.Sums.{total, up_to}
use Rattle.book.specs.Racks.{Rack, is_divided, whole_on}
use Rattle.book.specs.Sheets.{Span, Row, Sheet, holder, words_of, got, workers_with}
use Rattle.book.specs.Books.{Book, is_live, left, present_of, date_of, served}
use Rattle.book.specs.Turns.{head_of, tail_of, head, tail, opens, closes, ahead, has, IsRow, AreRows, IsNext}
use Rattle.book.specs.Calls.{quiet, standing_of}
use Rattle.book.specs.Laws.{FitsWords, FitsFields}
use Rattle.book.proofs.Sums.{total_le, total_one, total_add, total_at_most_one, total_swap, at_le_total, total_le_all, total_some}
use Rattle.book.proofs.Racks.{IsRack, within_both}
use Rattle.book.proofs.Lineup.{IsLineup, before, before_le, cover}
use Rattle.book.proofs.Holders.{Holds, at_head, at_tail, at_turn, holds, pos_from, tail_some, fine_of, live_model, prec, waits, lineup, ahead_is}
use Rattle.book.proofs.Lives.{lives}
use Rattle.book.proofs.Rows.{few_spans, spans_in, words_length, words_within, ends_within, models_within}
use Rattle.book.proofs.Pieces.{head_worker, whole_worker, whole_ends, divided_last}

-- of n things, those that are there have each a place of m of its own
count_by_place : (n m : ℕ) (there : ℕ → Bool) (place : ℕ → ℕ) → ((k : ℕ) → k < n → IsTrue (there k) → place k < m)
    → ((j k : ℕ) → j < n → k < n → IsTrue (there j) → IsTrue (there k) → place j ≡ place k → j ≡ k) → total n (λ k. cond (there k) 1 0) ≤ m
count_by_place n m there place low one =
    let at : ℕ → ℕ → ℕ = λ k q. cond (there k && (place k == q)) 1 0 in
    let some = total_le n (λ k. cond (there k) 1 0) (λ k. total m (at k)) (λ k l. elim (cases_Bool (there k)) [
      | inl is ↦
          let here = at_le_total m (at k) (place k) (low k l is) in
          let own : at k (place k) ≡ 1 = grind (arith, nat_tests) in
          grind (arith, nat_tests)
      | inr none ↦ rw none (omega arith)
    ]) in
    let few = total_le_all m 1 (λ q. total n (λ k. at k q)) (λ q l. total_at_most_one n (λ k. at k q) (λ k m'. grind (arith, nat_tests)) (λ j k lj lk hj hk. one j k lj lk (grind (arith, nat_tests)) (grind (arith, nat_tests)) (grind (arith, nat_tests)))) in
    omega (arith, total_swap n m at)

module _ {rack : Rack} (ok : IsRack rack) where
  -- each divided model has its first piece on another of the workers but the last
  few_divided : total rack.models (λ k. cond (is_divided (rack.pieces (k + 1))) 1 0) ≤ 31
  few_divided =
      count_by_place rack.models 31 (λ k. is_divided (rack.pieces (k + 1))) (λ k. worker_of (rack.pieces (k + 1)) - 1)
      (λ k l is. let f = ok.fine (k + 1) (omega arith) (omega arith) in omega (arith, f.from, f.to, divided_last (rack.pieces (k + 1)) is, ok.few_workers))
      (λ j k lj lk dj dk same.
      let fj = ok.fine (j + 1) (omega arith) (omega arith) in
      let fk = ok.fine (k + 1) (omega arith) (omega arith) in
      omega (arith, ok.one_first (j + 1) (k + 1) (omega arith) (omega arith) (omega arith) (omega arith) dj dk (omega (arith, fj.from, fk.from))))

-- a model has a piece on worker p
abbrev stands_on : ℕ → Pieces → Bool
stands_on p (Whole worker size) = worker == p
stands_on p (Divided worker first second) = (worker == p) || (worker + 1 == p)

end_stands : (mirrored : Bool) (p : ℕ) (x : Pieces) → 0 < head_of mirrored p x → IsTrue (stands_on p x)
end_stands true p (Whole worker size) l = absurd (omega arith)
end_stands false p (Whole worker size) l = absurd (omega arith)
end_stands true p (Divided worker first second) l = grind (arith, nat_tests)
end_stands false p (Divided worker first second) l = grind (arith, nat_tests)

whole_stands : (p : ℕ) (x : Pieces) → IsTrue (whole_on p x) → IsTrue (stands_on p x)
whole_stands p (Whole worker size) h = h
whole_stands p (Divided worker first second) h = absurd (cc)

-- a model has one piece at most on a worker
one_side : (mirrored : Bool) (p : ℕ) (x : Pieces) → 0 < tail_of mirrored p x → head_of mirrored p x ≡ 0
one_side true p (Whole worker size) l = refl
one_side false p (Whole worker size) l = refl
one_side true p (Divided worker first second) l = grind (arith, nat_tests)
one_side false p (Divided worker first second) l = grind (arith, nat_tests)

-- where a model's turn on a worker ends: h and t are the sizes of its pieces that come first and last, c is where the undivided runs end, and z is where its own run would
abbrev mark_of : (G D h t c z : ℕ) → ℕ
mark_of G D h t c z = cond (nat_lt 0 h) (h * D) (cond (nat_lt 0 t) ((G - t) * D) (min c z))

mark_head : (G D h t c z : ℕ) → 0 < h → mark_of G D h t c z ≡ h * D
mark_head G D h t c z l = rw (lt-ltb 0 h l) refl

mark_tail : (G D h t c z : ℕ) → h ≡ 0 → 0 < t → mark_of G D h t c z ≡ (G - t) * D
mark_tail G D h t c z e l = rw (e, lt-ltb 0 t l) refl

mark_turn : (G D h t c z : ℕ) → h ≡ 0 → t ≡ 0 → mark_of G D h t c z ≡ min c z
mark_turn G D h t c z e f = rw (e, f) refl

turn_holds : (b' w y : ℕ) → 1 ≤ cond (nat_le b' y && nat_lt y (b' + w)) 1 0 → (b' ≤ y) × (y < b' + w)
turn_holds b' w y h = (grind (arith, nat_tests), grind (arith, nat_tests))

-- while something is left, one of the first n runs has its turn
one_served : (prec : ℕ → ℕ → Bool) → IsLineup prec → (left : ℕ → ℕ) (n y : ℕ) → y < total n left → (k : ℕ) × ((before prec left n k ≤ y) × (y < before prec left n k + left k))
one_served prec line left n y l =
    let f : ℕ → ℕ = λ k. cond (nat_le (before prec left n k) y && nat_lt y (before prec left n k + left k)) 1 0 in
    let one : 0 < total n f = rw (cover prec line left n y, lt-ltb y (total n left) l) (omega arith) in
    let w = total_some n f one in
    (w.0, turn_holds (before prec left n w.0) (left w.0) y w.1.1)

-- what waits on a worker is live and whole there
waiting_left : (live whole : Bool) (l : ℕ) → 0 < cond (live && whole) l 0 → IsTrue live × IsTrue whole × (cond (live && whole) l 0 ≡ l)
waiting_left true true l h = (refl, refl, refl)
waiting_left true false l h = absurd (omega arith)
waiting_left false whole l h = absurd (omega arith)

module _ {rack : Rack} (ok : IsRack rack) (dates : ℕ → ℕ → Bool) (b : Book) (precedes : Run → Run → Bool) (D p : ℕ) where
  abbrev Head : ℕ → ℕ
  Head = head rack b p

  abbrev Tail : ℕ → ℕ
  Tail = tail rack b p

  abbrev Opens : ℕ
  Opens = opens rack b p D

  abbrev Closes : ℕ
  Closes = closes rack b p D

  abbrev Ahead : ℕ → ℕ
  Ahead = ahead rack dates precedes b p

  abbrev Left : ℕ → ℕ
  Left = left rack dates b

  abbrev Has : ℕ → ℕ → Bool
  Has = has rack dates precedes b D p

  abbrev HoldsAt : ℕ → ℕ → Type 0
  HoldsAt = Holds rack dates precedes b D p

  abbrev mark : ℕ → ℕ
  mark i = mark_of rack.grain D (Head i) (Tail i) Closes (Opens + Ahead i + Left i)

  pub has_from : (i x : ℕ) → IsTrue (is_live rack dates b i) → HoldsAt i x → IsTrue (Has i x)
  has_from i x live (at_head l) = and_from _ _ live (or_left _ _ (or_left _ _ (lt-ltb _ _ l)))
  has_from i x live (at_tail l) = and_from _ _ live (or_left _ _ (or_right _ _ (le-leb _ _ l)))
  has_from i x live (at_turn w o t c) = and_from _ _ live (or_right _ _ (and_from _ _ (and_from _ _ (and_from _ _ w (le-leb _ _ o)) (lt-ltb _ _ t)) (lt-ltb _ _ c)))

  abbrev At : ℕ → ℕ → Type 0
  At i x = IsTrue (stands_on p (rack.pieces i)) × (mark i ≡ x)

  no_ends : (i : ℕ) → IsTrue (whole_on p (rack.pieces i)) → (Head i ≡ 0) × (Tail i ≡ 0)
  no_ends i w =
      let e = (whole_worker p (rack.pieces i) w).1 in
      let m = b.mirrored (rack.group p) in
      (whole_ends m p (rack.pieces i) e, whole_ends (not m) p (rack.pieces i) e)

  -- a model that holds part x - 1 and not part x has its mark there
  loses : (i x : ℕ) → 1 ≤ x → HoldsAt i (x - 1) → (HoldsAt i x → ⊥) → At i x
  loses i x some (at_head l) stops =
      let h = pos_from (Head i) D (x - 1) l in
      let e : Head i * D ≡ x = elim (cases_lt x (Head i * D)) [
        | inl more ↦ absurd (stops (at_head more))
        | inr done ↦ omega arith
      ] in
      (end_stands (b.mirrored (rack.group p)) p (rack.pieces i) h, mark_head rack.grain D (Head i) (Tail i) Closes (Opens + Ahead i + Left i) h ∙ e)
  loses i x some (at_tail l) stops = absurd (stops (at_tail (omega arith)))
  loses i x some (at_turn w o t c) stops =
      let n = no_ends i w in
      let e : min Closes (Opens + Ahead i + Left i) ≡ x = elim (cases_lt x (min Closes (Opens + Ahead i + Left i))) [
        | inl more ↦ absurd (stops (at_turn w (omega arith) (omega arith) (omega arith)))
        | inr done ↦ omega arith
      ] in
      (whole_stands p (rack.pieces i) w, mark_turn rack.grain D (Head i) (Tail i) Closes (Opens + Ahead i + Left i) n.0 n.1 ∙ e)

  -- and a model that holds part x and not part x - 1 has its mark there, or begins its turn there
  gains : (i x : ℕ) → 1 ≤ x → x < rack.grain * D → HoldsAt i x → (HoldsAt i (x - 1) → ⊥) → At i x ⊎ ((Opens + Ahead i ≡ x) × (x < Closes))
  gains i x some l (at_head m) begins = absurd (begins (at_head (omega arith)))
  gains i x some l (at_tail m) begins =
      let t = tail_some rack.grain (Tail i) D x m l in
      let e : (rack.grain - Tail i) * D ≡ x = elim (cases_lt (x - 1) ((rack.grain - Tail i) * D)) [
        | inl here ↦ omega arith
        | inr before ↦ absurd (begins (at_tail before))
      ] in
      let m = not (b.mirrored (rack.group p)) in
      inl (end_stands m p (rack.pieces i) t, mark_tail rack.grain D (Head i) (Tail i) Closes (Opens + Ahead i + Left i) (one_side (b.mirrored (rack.group p)) p (rack.pieces i) t) t ∙ e)
  gains i x some l (at_turn w o t c) begins = inr (elim (cases_lt (x - 1) (Opens + Ahead i)) [
    | inl here ↦ (omega arith, c)
    | inr before ↦ absurd (begins (at_turn w before (omega arith) (omega arith)))
  ])

  -- the undivided runs begin where the piece that comes first ends
  opened : (x : ℕ) → 1 ≤ x → Opens ≡ x → (k : ℕ) × ((k < rack.models) × At (k + 1) x)
  opened x some e =
      let m = b.mirrored (rack.group p) in
      let w = total_some rack.models (λ k. Head (k + 1)) (pos_from (up_to rack.models Head) D 0 (omega arith)) in
      let n = w.0 + 1 in
      let all : up_to rack.models Head ≡ Head n = total_one rack.models (λ k. Head (k + 1)) w.0 w.1.0 (λ k l ne. elim (cases_lt 0 (Head (k + 1))) [
        | inl other ↦ absurd (ne (let e : k + 1 ≡ n = ok.one_first (k + 1) n (omega arith) (omega arith) (omega arith) (omega (arith, w.1.0)) (head_worker m p (rack.pieces (k + 1)) other).0 (head_worker m p (rack.pieces n) w.1.1).0 (omega (arith, head_worker m p (rack.pieces (k + 1)) other, head_worker m p (rack.pieces n) w.1.1)) in omega arith))
        | inr none ↦ omega arith
      ]) in
      (w.0, (w.1.0, (end_stands m p (rack.pieces n) w.1.1, mark_head rack.grain D (Head n) (Tail n) Closes (Opens + Ahead n + Left n) w.1.1 ∙ ap (λ a. a * D) (sym all) ∙ e)))

  module _ (order : OrderLaws (λ (r : Run). r.model) (λ (r : Run). r.deadline) precedes) where
    -- before a run's turn another run has its own
    served_before : (k x : ℕ) → k < rack.models → 0 < Ahead (k + 1) → Opens + Ahead (k + 1) ≡ x → x < Closes
        → (j : ℕ) × (IsTrue (is_live rack dates b (j + 1)) × HoldsAt (j + 1) (x - 1))
    served_before k x l some e c =
        let line = lineup ok dates b precedes D p order in
        let W = waits ok dates b precedes D p order in
        let before_is = ahead_is ok dates b precedes D p order in
        let w = one_served (prec ok dates b precedes D p order) line W rack.models (Ahead (k + 1) - 1) (omega (arith, before_is k, before_le (prec ok dates b precedes D p order) W rack.models k)) in
        let j = w.0 in
        let t = waiting_left (is_live rack dates b (j + 1)) (whole_on p (rack.pieces (j + 1))) (Left (j + 1)) (omega (arith, w.1.0, w.1.1)) in
        (j, (t.0, at_turn t.1 (omega (arith, before_is j, w.1.0)) (omega (arith, before_is j, w.1.1, t.2)) (omega arith)))

    module _ (row : Row) (is : IsRow rack dates precedes b D p row) where
      -- who has the worker at part x
      held : (x : ℕ) → x < rack.grain * D → 0 < holder row x → (k : ℕ) × ((k < rack.models) × (holder row x ≡ k + 1) × IsTrue (is_live rack dates b (k + 1)) × HoldsAt (k + 1) x)
      held x l some =
          let k = holder row x - 1 in
          let e : holder row x ≡ k + 1 = omega arith in
          let h = holds rack dates precedes b D p (k + 1) x (sym (is.says (k + 1) x (omega arith) l) ∙ eq-eqb (holder row x) (k + 1) e) in
          let m = within_both 1 rack.models (k + 1) (live_model ok dates b (k + 1) h.0) in
          (k, (omega (arith, m.1), e, h.0, h.1))

      holder_is : (k x : ℕ) → x < rack.grain * D → IsTrue (is_live rack dates b (k + 1)) → HoldsAt (k + 1) x → holder row x ≡ k + 1
      holder_is k x l live h = eqb-true (holder row x) (k + 1) (is.says (k + 1) x (omega arith) l ∙ has_from (k + 1) x live h)

      -- where the holder changes there is a mark
      marked : (x : ℕ) → 1 ≤ x → x < rack.grain * D → holder row (x - 1) ≢ holder row x → (k : ℕ) × ((k < rack.models) × At (k + 1) x)
      marked x some l change = elim (cases_lt 0 (holder row (x - 1))) [
        | inl one ↦
            let w = held (x - 1) (omega arith) one in
            (w.0, (w.1.0, loses (w.0 + 1) x some w.1.3 (λ h. change (w.1.1 ∙ sym (holder_is w.0 x l w.1.2 h)))))
        | inr none ↦
            let w = held x l (elim (cases_lt 0 (holder row x)) [
              | inl other ↦ other
              | inr none' ↦ absurd (change (omega arith))
            ]) in
            elim (gains (w.0 + 1) x some l w.1.3 (λ h. let e = holder_is w.0 (x - 1) (omega arith) w.1.2 h in omega arith)) [
              | inl here ↦ (w.0, (w.1.0, here))
              | inr turn ↦ elim (cases_lt 0 (Ahead (w.0 + 1))) [
                | inl later ↦
                    let v = served_before w.0 x w.1.0 later turn.0 turn.1 in
                    absurd (let e = holder_is v.0 (x - 1) (omega arith) v.1.0 v.1.1 in omega arith)
                | inr first ↦ opened x some (omega (arith, turn.0))
              ]
            ]
      ]

      -- a row has at most one span more than models stand on its worker
      row_spans : length row ≤ 1 + total rack.models (λ k. cond (stands_on p (rack.pieces (k + 1))) 1 0)
      row_spans = few_spans (rack.grain * D) rack.models (λ k. mark (k + 1)) (λ k. stands_on p (rack.pieces (k + 1))) row is.tiles (λ x some l change. let w = marked x some l change in (w.0, (w.1.0, w.1.1.0, w.1.1.1)))

-- on how many of the n workers from p on a model stands
abbrev pub stands : ℕ → ℕ → Pieces → ℕ
stands zero p x = 0
stands (suc n) p x = cond (stands_on p x) 1 0 + stands n (p + 1) x

-- on its own worker, and if it is divided, on the next one
stands_twice : (n p : ℕ) (x : Pieces) → stands n p x ≤ cond (nat_le p (worker_of x)) 1 0 + cond (is_divided x && nat_le p (worker_of x + 1)) 1 0
stands_twice zero p x = omega arith
stands_twice (suc n) p (Whole worker size) = let rest = stands_twice n (p + 1) (Whole worker size) in grind (arith, nat_tests)
stands_twice (suc n) p (Divided worker first second) = let rest = stands_twice n (p + 1) (Divided worker first second) in grind (arith, nat_tests)

stands_few : (n p : ℕ) (x : Pieces) → stands n p x ≤ 1 + cond (is_divided x) 1 0
stands_few n p x = let rest = stands_twice n p x in grind (arith, nat_tests)

-- on m workers from p on, and on the n behind them
pub stands_split : (m n p : ℕ) (x : Pieces) → stands (m + n) p x ≡ stands m p x + stands n (p + m) x
stands_split zero n p x = omega (arith, ap (λ k. stands k p x) (zero-add n), ap (λ q. stands n q x) (add-zero p))
stands_split (suc m) n p x =
    let there : stands n (p + suc m) x ≡ stands n (p + 1 + m) x = ap (λ q. stands n q x) (omega arith) in
    omega (arith, ap (λ k. stands k p x) (suc-add m n), there, stands_split m n (p + 1) x)

-- each model stands on one worker, and a divided one on another
pub models_stand : {rack : Rack} → IsRack rack → (n p : ℕ) → total rack.models (λ k. stands n p (rack.pieces (k + 1))) ≤ 95
models_stand {rack} ok n p =
    let m = rack.models in
    let each = total_le m (λ k. stands n p (rack.pieces (k + 1))) (λ k. 1 + cond (is_divided (rack.pieces (k + 1))) 1 0) (λ k l. stands_few n p (rack.pieces (k + 1))) in
    omega (arith, each, total_add m (λ k. 1) (λ k. cond (is_divided (rack.pieces (k + 1))) 1 0), total_le_all m 1 (λ k. 1) (λ k l. omega arith), few_divided ok, ok.few_models)

module _ {rack : Rack} (ok : IsRack rack) (dates : ℕ → ℕ → Bool) (b : Book) (precedes : Run → Run → Bool) (order : OrderLaws (λ (r : Run). r.model) (λ (r : Run). r.deadline) precedes) (D : ℕ) where
  pub rows_spans : (p : ℕ) (rows : List Row) → AreRows rack dates precedes b D p rows → spans_in rows ≤ length rows + total rack.models (λ k. stands (length rows) p (rack.pieces (k + 1)))
  rows_spans p [] are = omega arith
  rows_spans p (row ∷ rows) are =
      omega (arith, row_spans ok dates b precedes D p order row are.0, rows_spans (p + 1) rows are.1, total_add rack.models (λ k. cond (stands_on p (rack.pieces (k + 1))) 1 0) (λ k. stands (length rows) (p + 1) (rack.pieces (k + 1))))

  -- rows have at most one span each, and one for each time that a model stands on a worker
  pub spans_few : (p : ℕ) (rows : List Row) → AreRows rack dates precedes b D p rows → spans_in rows ≤ length rows + 95
  spans_few p rows are = omega (arith, rows_spans p rows are, models_stand ok (length rows) p)

  -- no length, end or model of these rows is above a bound on 65 and on the interval's parts
  pub rows_within : (B p : ℕ) (rows : List Row) → 65 ≤ B → rack.grain * D ≤ B → AreRows rack dates precedes b D p rows
      → All (λ (row : Row). (length row ≤ B) × All (λ (span : Span). (span.end ≤ B) × (span.model ≤ B)) row) rows
  rows_within B p [] some long are = All-nil (λ (row : Row). (length row ≤ B) × All (λ (span : Span). (span.end ≤ B) × (span.model ≤ B)) row)
  rows_within B p (row ∷ rows) some long are =
      let n = rack.models in
      let is = are.0 in
      let stand = total_le_all n 1 (λ k. cond (stands_on p (rack.pieces (k + 1))) 1 0) (λ k l. grind (arith, nat_tests)) in
      let ends = ends_within 0 (rack.grain * D) row is.tiles in
      let models = models_within (rack.grain * D) n (has rack dates precedes b D p) row (record { tiles = is.tiles; says = is.says }) (λ i x h. (within_both 1 n i (live_model ok dates b i (holds rack dates precedes b D p i x h).0)).1) in
      All-cons (λ (row : Row). (length row ≤ B) × All (λ (span : Span). (span.end ≤ B) × (span.model ≤ B)) row) row rows
      (omega (arith, row_spans ok dates b precedes D p order row is, stand, ok.few_models), λ k d l. (omega (arith, ends k d l), omega (arith, models k d l, ok.few_models)))
      (rows_within B (p + 1) rows some long are.1)

module _ {rack : Rack} (ok : IsRack rack) (dates : ℕ → ℕ → Bool) (precedes : Run → Run → Bool) where
  -- the next sheet of a book fits, if it ends no later than a date or a deadline may be
  pub sheet_fits : OrderLaws (λ (r : Run). r.model) (λ (r : Run). r.deadline) precedes → (b : Book) (g : ℕ) (s : Sheet) → IsNext rack dates precedes b g s → s.end < 2 ^ 30 + 100801 → FitsWords s
  sheet_fits order b g s next early =
      let workers = next.workers in
      let few : length s.rows ≤ 32 = omega (arith, next.all, workers.from_one, workers.within, ok.few_workers) in
      let D = s.end - s.start in
      let B = 2 ^ 64 - 1 in
      let long : rack.grain * D ≤ B = omega (arith, mul-le rack.grain D 100800 (2 ^ 30 + 100801) ok.small_grain (omega arith)) in
      let within = words_within B s (omega arith) (rows_within ok dates b precedes order D B s.first s.rows (omega arith) long next.rows') in
      record {
        short = omega (arith, words_length s, spans_few ok dates b precedes order D s.first s.rows next.rows');
        narrow = All-weaker (λ w. w ≤ B) (λ w. w < 2 ^ 64) (λ w l. omega arith) (words_of s) within;
        start' = omega (arith, next.moment.later, next.start');
        end' = omega arith;
        first' = omega (arith, workers.some, workers.within, ok.few_workers);
      }

-- the difference of two numbers below 2^40
difference_fits : (a c : ℕ) → a < 2 ^ 40 → c < 2 ^ 40 → FitsSigned w64 (pos a -ℤ pos c)
difference_fits a c l m = omega (arith, ints)

idle_fits : (phase : Phase) → FitsFields (quiet phase)
idle_fits phase = record { date' = omega arith; served' = omega arith; lag' = omega (arith, ints) }

pub parts_between : (t d G : ℕ) → t * G - d * G ≤ (t - d) * G
parts_between t d G = omega (arith, add-mul (t - d) d G, mul-le-mul_right G (let h : t ≤ t - d + d = omega arith in h))

-- with one worker at a time, a model gets no more parts than there are
got_few : (grain : ℕ) (sheets : List Sheet) (i from to : ℕ) → ((x : ℕ) → workers_with grain sheets i x ≤ 1) → got grain sheets i from to ≤ to - from
got_few grain sheets i from to one = omega (arith, total_le_all (to - from) 1 (λ k. workers_with grain sheets i (from + k)) (λ k l. one (from + k)))

module _ {rack : Rack} (ok : IsRack rack) {dates : ℕ → ℕ → Bool} {spacings : ℕ → ℕ} (calendar : CalendarLaws dates spacings) (b : Book) where
  pub live_fits : (i : ℕ) → ((x : ℕ) → workers_with rack.grain b.sheets i x ≤ 1) → IsTrue (is_live rack dates b i)
      → FitsFields (record { phase = phase_number phase.Live; date = date_of rack dates b i; served = served rack dates b i; lag = pos (served rack dates b i) -ℤ pos (rack.weight i * (present_of rack b i - date_of rack dates b i)) })
  live_fits i one live =
      let date = date_of rack dates b i in
      let gone = present_of rack b i - date in
      let l = lives rack dates b i live in
      let fine = fine_of ok i (live_model ok dates b i live) in
      let early = calendar.early i date l.date in
      let short : gone ≤ 100800 = omega (arith, fine.small_period, l.goes) in
      let few : served rack dates b i ≤ 100800 * 100800 = omega (arith, got_few rack.grain b.sheets i (date * rack.grain) (present_of rack b i * rack.grain) one, parts_between (present_of rack b i) date rack.grain, mul-le gone rack.grain 100800 100800 short ok.small_grain) in
      record {
        date' = omega arith;
        served' = omega arith;
        lag' = difference_fits (served rack dates b i) (rack.weight i * gone) (omega arith) (omega (arith, mul-le (rack.weight i) gone 100800 100800 (omega (arith, fine.fits, ok.small_grain)) short));
      }

  -- a standing fits its fields, if a model has one worker at a time
  pub standing_fits : ((i x : ℕ) → 1 ≤ i → workers_with rack.grain b.sheets i x ≤ 1) → (i : ℕ) → FitsFields (standing_of rack dates b i)
  standing_fits one i =
      cond_both (b.withdrawn i) _ _ FitsFields (λ e. idle_fits phase.Withdrawn)
      (λ e. cond_both (is_live rack dates b i) _ _ FitsFields (λ live. live_fits i (λ x. one i x (within_both 1 rack.models i (live_model ok dates b i live)).0) live) (λ e'. idle_fits phase.Waiting))
