-- The rows that are built from the records.
use Rattle.std.proofs.Common.{◌≡◌, ℕ, suc, ◌+◌, ◌-◌, ◌<◌, ◌≤◌, Bool, false, not, List, [], ◌∷◌, length, take, inl, inr, Ok, Err, Result, refl, sym, subst, ap, ◌∙◌, arith}
use Rattle.std.specs.Prelude.{OnOk, OnErr}
use Rattle.std.specs.List.Sorted.{IsPermutation}
use Rattle.std.proofs.lemmas.List.Sorted.{IsPermutation-refl, IsPermutation-trans, IsPermutation-cons}
use Rattle.std.specs.Bool.{IsTrue, IsFalse}
use Rattle.std.proofs.lemmas.Bool.{cases_eq, both_ways, and_parts, and_from, le-leb}
use Rattle.kinds.specs.declared.runs.Run.{Run}
use Rattle.plan.specs.declared.plans.Plan.{Plan}
use Rattle.plan.specs.Shares.{pieces_at}
use Rattle.book.specs.Sums.{up_to}
use Rattle.book.specs.Racks.{rack_of}
use Rattle.book.specs.Books.{blank, is_model_of}
use Rattle.book.specs.Turns.{head_of}
use Rattle.book.proofs.Racks.{within_both, rack_of-IsRack}
use Rattle.book.proofs.Holders.{one_end, room}
use Rattle.queue.specs.declared.Queue.{Queue}
use Rattle.queue.specs.Queues.{slots_of, count_of, things_of, OneMore, Stays}
use Rattle.queue.proofs.Stays.{stays_on}
use Rattle.roster.specs.Waiting.{runs_of}
use Rattle.roster.specs.Dividing.{IsAtEnd}
use Rattle.roster.specs.declared.record.Record.{Record}
use Rattle.roster.specs.Records.{phase_at}
use Rattle.roster.specs.Filling.{has_run, is_live_in}

-- one model at most has a piece at one end of a worker
one_piece : (plan : Plan) (second : Bool) (p i j : ℕ) → IsTrue (is_model_of (rack_of plan) i) → IsTrue (is_model_of (rack_of plan) j) → 0 < head_of second p ((rack_of plan).pieces i) → 0 < head_of second p ((rack_of plan).pieces j) → i ≡ j
one_piece plan second p i j = one_end (rack_of-IsRack plan) (λ i t. false) blank (λ q r. false) 0 p second i j

-- the same of the models up to n
pub record EndSoFar (live : ℕ → Bool) (size : ℕ → ℕ) (n m : ℕ) : Type 0 where
  pub stands : 1 ≤ m → IsTrue (live m) × (0 < size m)
  pub only : (i : ℕ) → i ≤ n → IsTrue (live i) → 0 < size i → m ≡ i

module _ (plan : Plan) (records : List Record) (second : Bool) (p : ℕ) where
  abbrev runs : ℕ → Bool
  runs = has_run plan records

  abbrev size : ℕ → ℕ
  size i = head_of second p ((rack_of plan).pieces i)

  run_model : (i : ℕ) → IsTrue (runs i) → (1 ≤ i) × (i ≤ (rack_of plan).models)
  run_model i h = within_both 1 (rack_of plan).models i (and_parts _ _ h).0

  pub end_none : EndSoFar runs size 0 0
  end_none = record {
    stands = λ l. absurd (omega arith);
    only = λ i l h some. absurd (omega (arith, run_model i h));
  }

  pub end_more : (n m : ℕ) → EndSoFar runs size n m → IsTrue (runs (n + 1)) → 0 < size (n + 1) → EndSoFar runs size (n + 1) (n + 1)
  end_more n m was h some = record {
    stands = λ l. (h, some);
    only = λ i l hi si. one_piece plan second p (n + 1) i (and_parts _ _ h).0 (and_parts _ _ hi).0 some si;
  }

  pub end_same : (n m : ℕ) → EndSoFar runs size n m → (IsTrue (runs (n + 1)) → 0 < size (n + 1) → ⊥) → EndSoFar runs size (n + 1) m
  end_same n m was none = record {
    stands = was.stands;
    only = λ i l hi si. elim (cases_eq i (n + 1)) [
      | inl same ↦ absurd (none (subst (λ j. IsTrue (runs j)) same hi) (subst (λ j. 0 < size j) same si))
      | inr other ↦ was.only i (omega arith) hi si
    ];
  }

  pub end_all : (m : ℕ) → EndSoFar runs size (rack_of plan).models m → IsAtEnd runs size m
  end_all m was = record {
    stands = was.stands;
    only = λ i h some. was.only i (run_model i h).1 h some;
  }

  -- the model in slot n, of which this is the number
  in_slot : (n : ℕ) → n + 1 - 1 ≡ n
  in_slot n = omega arith

  pub size_more : (n x piece : ℕ) → x ≡ up_to n size → piece ≡ head_of second p (pieces_at plan.pieces n) → x + piece ≡ up_to (n + 1) size
  size_more n x piece was is =
      let here : size (n + 1) ≡ head_of second p (pieces_at plan.pieces n) = ap (λ k. head_of second p (pieces_at plan.pieces k)) (in_slot n) in
      let e : n + 1 ≡ suc n = omega arith in
      let more : up_to (n + 1) size ≡ up_to n size + size (n + 1) = ap (λ k. up_to k size) e in
      omega arith

  pub live_more : (n m piece : ℕ) → n < (rack_of plan).models → EndSoFar runs size n m → piece ≡ head_of second p (pieces_at plan.pieces n) → 0 < piece → IsTrue (is_live_in (phase_at records n)) → EndSoFar runs size (n + 1) (n + 1)
  live_more n m piece l was is some live = end_more n m was
      (and_from _ _ (and_from _ _ (le-leb 1 (n + 1) (omega arith)) (le-leb (n + 1) (rack_of plan).models (omega arith))) (subst (λ k. IsTrue (is_live_in (phase_at records k))) (sym (in_slot n)) live))
      (subst (λ k. 0 < head_of second p (pieces_at plan.pieces k)) (sym (in_slot n)) (omega arith))

  pub idle_more : (n m : ℕ) → EndSoFar runs size n m → IsFalse (is_live_in (phase_at records n)) → EndSoFar runs size (n + 1) m
  idle_more n m was idle = end_same n m was (λ h some. both_ways _ (subst (λ k. IsFalse (is_live_in (phase_at records k))) (sym (in_slot n)) idle) (and_parts _ _ h).1)

  pub none_more : (n m piece : ℕ) → EndSoFar runs size n m → piece ≡ head_of second p (pieces_at plan.pieces n) → piece ≡ 0 → EndSoFar runs size (n + 1) m
  none_more n m piece was is none = end_same n m was (λ h some. let here : size (n + 1) ≡ head_of second p (pieces_at plan.pieces n) = ap (λ k. head_of second p (pieces_at plan.pieces k)) (in_slot n) in omega arith)

-- the pieces that come first on a worker and those that come last fit its parts
pub ends_fit : (plan : Plan) (mirrored : Bool) (p : ℕ) → 1 ≤ p → p ≤ (rack_of plan).workers
    → up_to (rack_of plan).models (λ i. head_of mirrored p ((rack_of plan).pieces i)) + up_to (rack_of plan).models (λ i. head_of (not mirrored) p ((rack_of plan).pieces i)) ≤ (rack_of plan).grain
ends_fit plan mirrored p some last = omega (arith, room (rack_of-IsRack plan) (λ i t. false) (record blank { mirrored = λ g. mirrored }) (λ q r. false) 0 p some last)

-- what is done unless there is no room is done if there is
done_with_room : {T E : Type 0} (r : Result T E) (A B : Type 0) → OnOk r A → OnErr r B → (B → ⊥) → A
done_with_room (Ok u) A B done full room = done
done_with_room (Err e) A B done full room = absurd (room full)

-- the queue holds the runs of the first n models that wait
pub record Filled (takes : ℕ → Bool) (run : ℕ → Run) (precedes : Run → Run → Bool) (n : ℕ) (old new : Queue Run) : Type 0 where
  pub holds : IsPermutation (runs_of takes run n) (things_of new)
  pub few : count_of new ≤ n
  pub stays : Stays precedes 64 old new

module _ (takes : ℕ → Bool) (run : ℕ → Run) (precedes : Run → Run → Bool) (old : Queue Run) where
  pub filled_none : count_of old ≡ 0 → Filled takes run precedes 0 old old
  filled_none none = record {
    holds = let e : things_of old ≡ [] = ap (λ n. take n (slots_of old)) none in rw e (IsPermutation-refl []);
    few = omega arith;
    stays = record { room = refl; behind = refl; keeps = λ h. h; lent = refl };
  }

  module _ (n : ℕ) (q : Queue Run) (was : Filled takes run precedes n old q) where
    abbrev more : ℕ → List Run
    more k = runs_of takes run k

    step : n + 1 ≡ suc n
    step = omega arith

    pub filled_same : IsFalse (takes (n + 1)) → Filled takes run precedes (n + 1) old q
    filled_same none =
        let e : more (n + 1) ≡ more n = ap more step ∙ rw none refl in
        record { holds = subst (λ (l : List Run). IsPermutation l (things_of q)) (sym e) was.holds; few = omega (arith, was.few); stays = was.stays }

    pub filled_more : {T E : Type 0} (r : Queue Run) (result : Result T E) (x : Run) → IsTrue (takes (n + 1)) → x ≡ run (n + 1) → n < 64 → 64 ≤ length (slots_of old)
        → OnOk result (OneMore x q r) → OnErr result (count_of q ≡ length (slots_of q)) → Stays precedes (count_of r) q r → Filled takes run precedes (n + 1) old r
    filled_more r result x is same low room puts full stays =
        let one = done_with_room result (OneMore x q r) (count_of q ≡ length (slots_of q)) puts full (λ e. omega (arith, was.few, was.stays.room)) in
        let e : more (n + 1) ≡ x ∷ more n = ap more step ∙ rw is (ap (λ (y : Run). y ∷ more n) (sym same)) in
        record {
          holds = subst (λ (l : List Run). IsPermutation l (things_of r)) (sym e) (IsPermutation-trans _ _ _ (IsPermutation-cons x (more n) (things_of q) was.holds) one.holds);
          few = omega (arith, was.few, one.counts);
          stays = stays_on precedes 64 (count_of r) old q r (omega (arith, was.few, one.counts)) was.stays stays;
        }
