-- The row that is built is the row by the book.
use Rattle.std.proofs.Common.{◌≡◌, ℕ, ◌+◌, ◌-◌, ◌*◌, ◌<◌, ◌≤◌, Bool, cond, not, List, inl, inr, refl, sym, subst, ap, ◌∙◌, mul-le-mul_right, arith}
use Rattle.std.specs.Prelude.{◌==◌}
use Rattle.std.specs.Bool.{IsTrue, nat_lt}
use Rattle.std.specs.List.Sorted.{IsPermutation}
use Rattle.std.proofs.lemmas.Bool.{cases_Bool, cases_lt, both_ways, and_from, le-leb, le-ltb, eq-eqb, ne_eqb, false_from_ne_true}
use Rattle.std.proofs.lemmas.List.Sorted.{sum_by-IsPermutation}
use Rattle.order.specs.Laws.{OrderLaws}
use Rattle.kinds.specs.declared.runs.Run.{Run}
use Rattle.book.specs.Sums.{total, up_to}
use Rattle.book.specs.Racks.{Rack}
use Rattle.book.specs.Books.{Book, is_model_of, is_live, run_of}
use Rattle.book.specs.Turns.{head_of, takes_turns, head, tail, opens, closes, has}
use Rattle.book.proofs.Sums.{total_one, at_le_total}
use Rattle.book.proofs.Racks.{IsRack}
use Rattle.book.proofs.Lineup.{cover}
use Rattle.book.proofs.Holders.{Holds, at_head, at_tail, at_turn, holds, pos_from, tail_some, clash, room, one_end, head_le, tail_le, live_model, model_bounds, prec, waits, lineup, turn_at, in_turn_one}
use Rattle.book.proofs.Fits.{has_from}
use Rattle.roster.specs.declared.sheet.ends.Ends.{Ends}
use Rattle.roster.specs.Turns.{left_of, all_left, AreTurns}
use Rattle.roster.specs.Dividing.{IsAtEnd, AreEnds, Divides}
use Rattle.roster.proofs.Waiting.{waiting, sum_runs, are_turns}

none_below : (y z : ℕ) → z ≤ y → cond {A = ℕ} (nat_lt y z) 1 0 ≡ 0
none_below y z l = rw (le-ltb y z l) refl

module _ {rack : Rack} (ok : IsRack rack) (dates : ℕ → ℕ → Bool) (b : Book) (precedes : Run → Run → Bool) (order : OrderLaws (λ (r : Run). r.model) (λ (r : Run). r.deadline) precedes) (D p : ℕ) (some : 1 ≤ p) (last : p ≤ rack.workers) where
  abbrev Head : ℕ → ℕ
  Head = head rack b p

  abbrev Tail : ℕ → ℕ
  Tail = tail rack b p

  abbrev Heads : ℕ
  Heads = up_to rack.models Head

  abbrev Tails : ℕ
  Tails = up_to rack.models Tail

  abbrev Has : ℕ → ℕ → Bool
  Has = has rack dates precedes b D p

  abbrev HoldsAt : ℕ → ℕ → Type 0
  HoldsAt = Holds rack dates precedes b D p

  abbrev Live : ℕ → Bool
  Live = is_live rack dates b

  model_is : (i : ℕ) → 1 ≤ i → i ≤ rack.models → IsTrue (is_model_of rack i)
  model_is i low high = and_from _ _ (le-leb 1 i low) (le-leb i rack.models high)

  -- a live model with a piece at an end is the only model that has one there
  only_one : (mirrored : Bool) (m : ℕ) → IsTrue (Live m) → 0 < head_of mirrored p (rack.pieces m) → up_to rack.models (λ i. head_of mirrored p (rack.pieces i)) ≡ head_of mirrored p (rack.pieces m)
  only_one mirrored m live size =
      let is = live_model ok dates b m live in
      let n = model_bounds ok m is in
      let e : m - 1 + 1 ≡ m = omega arith in
      let f : ℕ → ℕ = λ (k : ℕ). head_of mirrored p (rack.pieces (k + 1)) in
      total_one rack.models f (m - 1) (omega arith) (λ k l ne. elim (cases_lt 0 (f k)) [
        | inl other ↦ absurd (ne (let h : k + 1 ≡ m = one_end ok dates b precedes D p mirrored (k + 1) m (model_is (k + 1) (omega arith) (omega arith)) is other size in omega arith))
        | inr none ↦ omega arith
      ]) ∙ ap (λ i. head_of mirrored p (rack.pieces i)) e

  fits : Heads + Tails ≤ rack.grain
  fits = omega (arith, room ok dates b precedes D p some last)

  -- who holds a part of the first piece is the model of that piece
  front_holds : (i x : ℕ) → x < Heads * D → IsTrue (Live i) → HoldsAt i x → 0 < Head i
  front_holds i x l live (at_head m) = pos_from (Head i) D x m
  front_holds i x l live (at_tail m) = absurd (clash rack.grain D Heads (Tail i) x (omega (arith, fits, tail_le ok dates b precedes D p order i live)) l m)
  front_holds i x l live (at_turn w o t c) = absurd (omega arith)

  back_holds : (i x : ℕ) → (rack.grain - Tails) * D ≤ x → x < rack.grain * D → IsTrue (Live i) → HoldsAt i x → 0 < Tail i
  back_holds i x l h live (at_head m) = absurd (clash rack.grain D (Head i) Tails x (omega (arith, fits, head_le ok dates b precedes D p order i live)) m l)
  back_holds i x l h live (at_tail m) = tail_some rack.grain (Tail i) D x m h
  back_holds i x l h live (at_turn w o t c) = absurd (omega arith)

  -- the tests of who it is and of who has a part are one
  same_test : (m i x : ℕ) → (IsTrue (Has i x) → m ≡ i) → (m ≡ i → IsTrue (Has i x)) → (m == i) ≡ Has i x
  same_test m i x to from = elim (cases_Bool (Has i x)) [
    | inl hit ↦ eq-eqb m i (to hit) ∙ sym hit
    | inr miss ↦ ne_eqb m i (λ e. both_ways _ miss (from e)) ∙ sym miss
  ]

  front : (m : ℕ) → IsAtEnd Live Head m → (i x : ℕ) → 1 ≤ i → x < Heads * D → (m == i) ≡ Has i x
  front m is i x l low = same_test m i x
      (λ h. let k = holds rack dates precedes b D p i x h in is.only i k.0 (front_holds i x low k.0 k.1))
      (λ e. let s = is.stands (omega arith) in
      let all = only_one (b.mirrored (rack.group p)) m s.0 s.1 in
      subst (λ j. IsTrue (Has j x)) e (has_from ok dates b precedes D p m x s.0 (at_head (subst (λ n. x < n * D) all low))))

  back : (m : ℕ) → IsAtEnd Live Tail m → (i x : ℕ) → 1 ≤ i → (rack.grain - Tails) * D ≤ x → x < rack.grain * D → (m == i) ≡ Has i x
  back m is i x l low high = same_test m i x
      (λ h. let k = holds rack dates precedes b D p i x h in is.only i k.0 (back_holds i x low high k.0 k.1))
      (λ e. let s = is.stands (omega arith) in
      let all = only_one (not (b.mirrored (rack.group p))) m s.0 s.1 in
      subst (λ j. IsTrue (Has j x)) e (has_from ok dates b precedes D p m x s.0 (at_tail (subst (λ n. (rack.grain - n) * D ≤ x) all low))))

  -- what all runs that wait still need
  all_waits : (things : List Run) → IsPermutation (waiting ok dates b precedes order D p some last) things → all_left things ≡ total rack.models (waits ok dates b precedes D p order)
  all_waits things same = sum_by-IsPermutation left_of (waiting ok dates b precedes order D p some last) things same ∙ sum_runs (takes_turns rack dates b p) (run_of rack dates b) left_of rack.models

  -- behind all turns nobody has a part up to the last piece
  idle_holds : (i x : ℕ) → opens rack b p D + total rack.models (waits ok dates b precedes D p order) ≤ x → x < closes rack b p D → IsTrue (Live i) → HoldsAt i x → ⊥
  idle_holds i x low high live (at_head m) = omega (arith, mul-le-mul_right D (head_le ok dates b precedes D p order i live))
  idle_holds i x low high live (at_tail m) = omega (arith, mul-le-mul_right D (let h : rack.grain - Tails ≤ rack.grain - Tail i = omega (arith, tail_le ok dates b precedes D p order i live) in h))
  idle_holds i x low high live (at_turn w o t c) =
      let n = model_bounds ok i (live_model ok dates b i live) in
      let y = x - opens rack b p D in
      let one = in_turn_one ok dates b precedes D p order i x live w o t in
      let le = at_le_total rack.models (turn_at ok dates b precedes D p order y) (i - 1) (omega arith) in
      let none = none_below y (total rack.models (waits ok dates b precedes D p order)) (omega arith) in
      omega (arith, cover (prec ok dates b precedes D p order) (lineup ok dates b precedes D p order) (waits ok dates b precedes D p order) rack.models y)

  pub divides : (things : List Run) → IsPermutation (waiting ok dates b precedes order D p some last) things → (ends : Ends) → AreEnds Live Head Tail rack.models rack.grain D ends → Divides precedes things ends Has
  divides things same ends are = record {
    front = λ i x l low. front ends.head are.head' i x l (omega (arith, are.opens'));
    turns = subst (λ z. AreTurns precedes things ends.opens z Has) (sym are.closes') (subst (λ a. AreTurns precedes things a (closes rack b p D) Has) (sym are.opens') (are_turns ok dates b precedes order D p some last things same (mul-le-mul_right D (let h : rack.grain - Tails ≤ rack.grain = omega arith in h))));
    idle = λ i x l low high. false_from_ne_true (Has i x) (λ h. let k = holds rack dates precedes b D p i x h in idle_holds i x (omega (arith, are.opens', all_waits things same)) (omega (arith, are.closes')) k.0 k.1);
    back = λ i x l low high. back ends.tail are.tail' i x l (omega (arith, are.closes')) (omega (arith, are.long'));
  }
