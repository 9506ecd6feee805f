-- The runs that wait on a worker have the turns that the book gives them.
use Rattle.std.proofs.Common.{◌≡◌, ℕ, zero, suc, ◌+◌, ◌*◌, ◌<◌, ◌≤◌, Bool, true, false, ◌&&◌, ◌||◌, List, inl, inr, refl, ◌∙◌, arith}
use Rattle.std.specs.Prelude.{◌==◌, if◌then◌else◌}
use Rattle.std.specs.Bool.{IsTrue}
use Rattle.std.specs.List.{All, sum_by}
use Rattle.std.specs.List.Sorted.{IsPermutation}
use Rattle.std.proofs.lemmas.Bool.{cases_Bool, and_parts, and_from, or_right, le-leb, lt-ltb, eqb-true}
use Rattle.std.proofs.lemmas.List.Elements.{All-nil, All-cons}
use Rattle.std.proofs.lemmas.List.Sums.{sum_by-cons}
use Rattle.std.proofs.lemmas.List.Sorted.{All-permutation, sum_by-IsPermutation}
use Rattle.order.specs.Laws.{OrderLaws}
use Rattle.kinds.specs.declared.runs.Run.{Run}
use Rattle.book.specs.Sums.{up_to}
use Rattle.book.specs.Racks.{Rack, whole_on}
use Rattle.book.specs.Books.{Book, is_live, left, run_of}
use Rattle.book.specs.Turns.{takes_turns, opens, closes, ahead, has, in_head, in_tail, in_turn}
use Rattle.book.proofs.Sums.{total_same, total_at_most_one}
use Rattle.book.proofs.Racks.{IsRack}
use Rattle.book.proofs.Holders.{one_holder}
use Rattle.roster.specs.Turns.{before, AreTurns}
use Rattle.roster.specs.Waiting.{runs_of}

module _ (takes : ℕ → Bool) (run' : ℕ → Run) where
  pub sum_runs : (f : Run → ℕ) (n : ℕ) → sum_by f (runs_of takes run' n) ≡ up_to n (λ j. if takes j then f (run' j) else 0)
  sum_runs f zero = refl
  sum_runs f (suc n) = elim (cases_Bool (takes (n + 1))) [
    | inl is ↦ rw is (sum_by-cons f (run' (n + 1)) (runs_of takes run' n) ∙ omega (arith, sum_runs f n))
    | inr off ↦ rw off (omega (arith, sum_runs f n))
  ]

  all_runs : (P : Run → Type 0) (n : ℕ) → ((j : ℕ) → 1 ≤ j → j ≤ n → IsTrue (takes j) → P (run' j)) → All P (runs_of takes run' n)
  all_runs P zero h = All-nil P
  all_runs P (suc n) h = elim (cases_Bool (takes (n + 1))) [
    | inl is ↦ rw is (All-cons P (run' (n + 1)) (runs_of takes run' n) (h (n + 1) (omega arith) (omega arith) is) (all_runs P n (λ j some last. h j some (omega arith))))
    | inr off ↦ rw off (all_runs P n (λ j some last. h j some (omega arith)))
  ]

both_if : (a c : Bool) (n : ℕ) → (if a then (if c then n else 0) else 0) ≡ (if a && c then n else 0)
both_if true c n = refl
both_if false c n = refl

one_if : (a c : Bool) → (if a then (if c then 1 else 0) else 0) ≤ 1
one_if true true = omega arith
one_if true false = omega arith
one_if false c = omega arith

hit : (a c : Bool) → 1 ≤ (if a then (if c then 1 else 0) else 0) → IsTrue c
hit true true l = refl
hit true false l = absurd (omega arith)
hit false c l = absurd (omega arith)

module _ {rack : Rack} (ok : IsRack rack) (dates : ℕ → ℕ → Bool) (b : Book) (precedes : Run → Run → Bool) (order : OrderLaws (λ (r : Run). r.model) (λ (r : Run). r.deadline) precedes) (D p : ℕ) (some : 1 ≤ p) (last : p ≤ rack.workers) where
  abbrev takes : ℕ → Bool
  takes = takes_turns rack dates b p

  abbrev pub waiting : List Run
  waiting = runs_of takes (run_of rack dates b) rack.models

  module _ (things : List Run) (same : IsPermutation waiting things) where
    before_ahead : (i : ℕ) → before precedes things (run_of rack dates b i) ≡ ahead rack dates precedes b p i
    before_ahead i =
        let f : Run → ℕ = λ (q : Run). if precedes q (run_of rack dates b i) then q.remaining else 0 in
        sum_by-IsPermutation f waiting things same ∙ sum_runs takes (run_of rack dates b) f rack.models
        ∙ total_same rack.models _ _ (λ k l. both_if (takes (k + 1)) (precedes (run_of rack dates b (k + 1)) (run_of rack dates b i)) (left rack dates b (k + 1)))

    abbrev Turn : Run → Type 0
    Turn r = (x : ℕ) → opens rack b p D + before precedes things r ≤ x → x < opens rack b p D + before precedes things r + r.remaining → x < closes rack b p D → IsTrue (has rack dates precedes b D p r.model x)

    pub are_turns : closes rack b p D ≤ rack.grain * D → AreTurns precedes things (opens rack b p D) (closes rack b p D) (has rack dates precedes b D p)
    are_turns short = record {
      models = All-permutation (λ (r : Run). 1 ≤ r.model) waiting things same (all_runs takes (run_of rack dates b) (λ (r : Run). 1 ≤ r.model) rack.models (λ j l m t. l));
      apart = λ m.
          let f : Run → ℕ = λ (q : Run). if q.model == m then 1 else 0 in
          let few = total_at_most_one rack.models (λ k. if takes (k + 1) then (if k + 1 == m then 1 else 0) else 0) (λ k l. one_if (takes (k + 1)) (k + 1 == m))
          (λ j k lj lk hj hk. omega (arith, eqb-true (j + 1) m (hit (takes (j + 1)) (j + 1 == m) hj), eqb-true (k + 1) m (hit (takes (k + 1)) (k + 1 == m) hk))) in
          omega (arith, sum_by-IsPermutation f waiting things same, sum_runs takes (run_of rack dates b) f rack.models, few);
      turn = All-permutation Turn waiting things same (all_runs takes (run_of rack dates b) Turn rack.models (λ j l m t x low high end.
          let both = and_parts (is_live rack dates b j) (whole_on p (rack.pieces j)) t in
          let e = before_ahead j in
          and_from (is_live rack dates b j) _ both.0 (or_right (in_head rack dates precedes b D p j x || in_tail rack dates precedes b D p j x) (in_turn rack dates precedes b D p j x) (and_from _ _ (and_from _ _ (and_from _ _ both.1 (le-leb _ _ (omega arith))) (lt-ltb _ _ (omega arith))) (lt-ltb _ _ end)))));
      one = λ i j x low high l m hi hj. one_holder ok dates b precedes D p order some last i j x (omega arith) hi hj;
    }
