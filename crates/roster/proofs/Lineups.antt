-- Taking turns.
use Rattle.std.proofs.Common.{◌≡◌, ◌≢◌, ℕ, ◌+◌, ◌-◌, ◌<◌, ◌≤◌, Bool, true, false, not, min, List, [], ◌∷◌, ◌++◌, length, get_or, inl, inr, refl, sym, ap, ◌∙◌, arith}
use Rattle.std.specs.Prelude.{◌==◌, if◌then◌else◌}
use Rattle.std.specs.Bool.{IsTrue}
use Rattle.std.specs.List.{All, sum_by}
use Rattle.std.specs.List.Sorted.{IsPermutation}
use Rattle.std.proofs.lemmas.Bool.{cases_eq, cases_Bool, both_ways, eq-eqb, ne_eqb}
use Rattle.std.proofs.lemmas.List.Elements.{All-nil, All-cons, All-head, All-tail, All-push, All-contains, Contains-append_right}
use Rattle.std.proofs.lemmas.List.Sums.{sum_by-append, sum_by-cons}
use Rattle.std.proofs.lemmas.List.Sorted.{IsPermutation-refl, IsPermutation-sym, IsPermutation-pop_more, All-permutation, Contains-permutation, sum_by-IsPermutation}
use Rattle.order.specs.Laws.{OrderLaws}
use Rattle.kinds.specs.declared.runs.Run.{Run}
use Rattle.queue.specs.Heaps.{Unpreceded}
use Rattle.roster.specs.Turns.{left_of, all_left, of_model, before, AreTurns}

yes : (b : Bool) (n : ℕ) → b ≡ true → (if b then n else 0) ≡ n
yes b n e = rw e refl

no : (b : Bool) (n : ℕ) → b ≡ false → (if b then n else 0) ≡ 0
no b n e = rw e refl

module _ (precedes : Run → Run → Bool) where
  -- some runs are taken, and each of them precedes all that wait
  pub record Taken (all held : List Run) (at closes reached : ℕ) : Type 0 where
    pub taken : List Run
    pub all' : IsPermutation all (taken ++ held)
    pub first : All (λ (q : Run). All (λ (t : Run). (t.model ≢ q.model) → precedes t q ≡ true) taken) held
    pub reached' : reached ≡ min closes (at + all_left taken)

  abbrev share : Run → Run → ℕ
  share r q = if precedes q r then q.remaining else 0

  all_share : (r : Run) (runs : List Run) → All (λ (q : Run). precedes q r ≡ true) runs → sum_by (share r) runs ≡ all_left runs
  all_share r [] h = refl
  all_share r (q ∷ runs) h = omega (arith, sum_by-cons (share r) q runs, sum_by-cons left_of q runs, all_share r runs (All-tail (λ (q : Run). precedes q r ≡ true) q runs h), yes (precedes q r) q.remaining (All-head (λ (q : Run). precedes q r ≡ true) q runs h))

  no_share : (r : Run) (runs : List Run) → All (λ (q : Run). precedes q r ≡ false) runs → sum_by (share r) runs ≡ 0
  no_share r [] h = refl
  no_share r (q ∷ runs) h = omega (arith, sum_by-cons (share r) q runs, no_share r runs (All-tail (λ (q : Run). precedes q r ≡ false) q runs h), no (precedes q r) q.remaining (All-head (λ (q : Run). precedes q r ≡ false) q runs h))

  -- what precedes a run is what was taken before it
  pub before_is : (all taken held rest : List Run) (r : Run) → IsPermutation all (taken ++ held) → IsPermutation (r ∷ rest) held
      → All (λ (t : Run). precedes t r ≡ true) taken → Unpreceded precedes held r → before precedes all r ≡ all_left taken
  before_is all taken held rest r perm took first none =
      omega (
        arith,
        sum_by-IsPermutation (share r) all (taken ++ held) perm,
        sum_by-append (share r) taken held,
        all_share r taken first,
        no_share r held none,
      )

pub taken_none : (precedes : Run → Run → Bool) (all : List Run) (at closes : ℕ) → at ≤ closes → Taken precedes all all at closes at
taken_none precedes all at closes l = record { taken = []; all' = IsPermutation-refl all; first = λ k d lt. All-nil (λ (t : Run). (t.model ≢ (get_or all k d).model) → precedes t (get_or all k d) ≡ true); reached' = omega arith }

abbrev of : ℕ → Run → ℕ
of m q = if q.model == m then 1 else 0

none_of : (m : ℕ) (runs : List Run) → of_model m runs ≡ 0 → All (λ (q : Run). q.model ≢ m) runs
none_of m [] h = All-nil (λ (q : Run). q.model ≢ m)
none_of m (q ∷ runs) h = All-cons (λ (q : Run). q.model ≢ m) q runs (λ e. let one : of m q ≡ 1 = rw (eq-eqb q.model m e) refl in absurd (omega (arith, sum_by-cons (of m) q runs))) (none_of m runs (omega (arith, sum_by-cons (of m) q runs)))

module _ {precedes : Run → Run → Bool} (order : OrderLaws (λ (r : Run). r.model) (λ (r : Run). r.deadline) precedes) (all held rest : List Run) (r : Run) (at closes reached end : ℕ)
    (was : Taken precedes all held at closes reached) (took : IsPermutation (r ∷ rest) held) (none : Unpreceded precedes held r) (is : end ≡ reached + min r.remaining (closes - reached)) where
  pub taken_more : Taken precedes all rest at closes end
  taken_more =
      let Left : Run → Type 0 = λ (q : Run). All (λ (t : Run). (t.model ≢ q.model) → precedes t q ≡ true) was.taken in
      let back = IsPermutation-sym _ _ took in
      let firsts = All-tail Left r rest (All-permutation Left held (r ∷ rest) back was.first) in
      let nones = All-tail (λ (q : Run). precedes q r ≡ false) r rest (All-permutation (λ (q : Run). precedes q r ≡ false) held (r ∷ rest) back none) in
      record {
        taken = was.taken ++ r ∷ [];
        all' = IsPermutation-pop_more all was.taken held rest r was.all' back;
        first = λ k d lt. All-push (λ (t : Run). (t.model ≢ (get_or rest k d).model) → precedes t (get_or rest k d) ≡ true) was.taken r (firsts k d lt)
            (λ ne. order.one_of_two r (get_or rest k d) ne ∙ ap not (nones k d lt));
        reached' = omega (arith, was.reached', sum_by-append left_of was.taken (r ∷ []), sum_by-cons left_of r []);
      }

  -- in its turn the worker is the run's
  pub turn_is : (has : ℕ → ℕ → Bool) → AreTurns precedes all at closes has → (i x : ℕ) → 1 ≤ i → reached ≤ x → x < end → (r.model == i) ≡ has i x
  turn_is has turns i x l low high =
      let here : reached ≡ at + all_left was.taken = omega (arith, was.reached') in
      let there = Contains-permutation (r ∷ rest) held r took (0, omega arith, refl) in
      let within = Contains-permutation (was.taken ++ held) all r (IsPermutation-sym _ _ was.all') (Contains-append_right was.taken held r there) in
      let m = r.model in
      let own : of m r ≡ 1 = rw (eq-eqb r.model m refl) refl in
      let others : of_model m was.taken ≡ 0 = omega (arith, turns.apart m, sum_by-IsPermutation (of m) all (was.taken ++ held) was.all', sum_by-append (of m) was.taken held, sum_by-IsPermutation (of m) (r ∷ rest) held took, sum_by-cons (of m) r rest) in
      let firsts = All-contains (λ (q : Run). All (λ (t : Run). (t.model ≢ q.model) → precedes t q ≡ true) was.taken) held r was.first there in
      let ahead = before_is precedes all was.taken held rest r was.all' took (λ k d lt. firsts k d lt (none_of m was.taken others k d lt)) none in
      let turn = All-contains (λ (r : Run). (x : ℕ) → at + before precedes all r ≤ x → x < at + before precedes all r + r.remaining → x < closes → IsTrue (has r.model x)) all r turns.turn within in
      let some = All-contains (λ (r : Run). 1 ≤ r.model) all r turns.models within in
      let mine = turn x (omega arith) (omega arith) (omega arith) in
      elim (cases_Bool (has i x)) [
        | inl hit ↦ eq-eqb m i (turns.one m i x (omega arith) (omega arith) some l mine hit) ∙ sym hit
        | inr miss ↦ elim (cases_eq m i) [
          | inl same ↦ absurd (both_ways _ miss (rw same at mine))
          | inr apart ↦ ne_eqb m i apart ∙ sym miss
        ]
      ]

-- all are taken
pub taken_all : (precedes : Run → Run → Bool) (all held : List Run) (at closes reached : ℕ) → Taken precedes all held at closes reached → length held ≡ 0 → reached ≡ min closes (at + all_left all)
taken_all precedes all [] at closes reached was e = omega (arith, was.reached', sum_by-IsPermutation left_of all (was.taken ++ []) was.all', sum_by-append left_of was.taken [])
taken_all precedes all (r ∷ held) at closes reached was e = absurd (omega arith)

-- the parts are all given
pub taken_full : (precedes : Run → Run → Bool) (all held : List Run) (at closes reached : ℕ) → Taken precedes all held at closes reached → closes ≤ reached → reached ≡ min closes (at + all_left all)
taken_full precedes all held at closes reached was full = omega (arith, was.reached', sum_by-IsPermutation left_of all (was.taken ++ held) was.all', sum_by-append left_of was.taken held)
