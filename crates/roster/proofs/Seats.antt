-- The models of each worker, from one to the next.
use Rattle.std.proofs.Common.{◌≡◌, ◌≢◌, ℕ, zero, suc, ◌+◌, ◌-◌, ◌*◌, ◌<◌, ◌≤◌, Bool, true, false, List, length, inl, inr, ap, sym, ◌∙◌, subst, refl, arith, replicate, get_or-set_same, get_or-set_other}
use Rattle.std.specs.Prelude.{slice_index, slice_set}
use Rattle.std.specs.Bool.{IsTrue, IsFalse, ◌==◌}
use Rattle.std.proofs.lemmas.Bool.{cases_eq, cases_Bool, and_parts, eqb-true}
use Rattle.std.proofs.lemmas.List.{length-set, length-replicate, get_or-replicate}
use Rattle.set.specs.Sets.{models_of}
use Rattle.kinds.specs.declared.runs.Run.{Run}
use Rattle.plan.specs.declared.plans.Plan.{Plan}
use Rattle.plan.specs.declared.pieces.Pieces.{Pieces}
use Rattle.plan.specs.declared.pieces.Pieces.TheVariants.{Whole, Divided}
use Rattle.plan.specs.Shares.{pieces_at, worker_of, last_of}
use Rattle.queue.specs.declared.Queue.{Queue}
use Rattle.book.specs.Sums.{up_to}
use Rattle.book.specs.Racks.{rack_of, whole_on}
use Rattle.book.specs.Turns.{head_of}
use Rattle.roster.specs.declared.record.Record.{Record}
use Rattle.roster.specs.Filling.{has_run, waits_on}
use Rattle.roster.specs.Seating.{chain_with, seat, NextOn, ChainedFrom}
use Rattle.roster.proofs.Filling.{Filled, filled_same, EndSoFar, size_more, none_more}

worker_last : (x : Pieces) → worker_of x ≤ last_of x
worker_last (Whole worker size) = omega arith
worker_last (Divided worker first second) = omega arith

module _ (plan : Plan) where
  pub seat_few : (k : ℕ) → k < models_of plan.set → seat plan k ≤ 32
  seat_few k l = omega (arith, worker_last (pieces_at plan.pieces k), (plan.shared k l).1, plan.set.sizes.few_workers)

  pub next_none : (p : ℕ) → NextOn plan p (models_of plan.set) (models_of plan.set)
  next_none p = record {
    later = omega arith;
    within = omega arith;
    others = λ k low high. absurd (omega arith);
    here = λ l. absurd (omega arith);
  }

  next_here : (p n : ℕ) → n < models_of plan.set → p ≡ seat plan n → NextOn plan p n n
  next_here p n l same = record {
    later = omega arith;
    within = omega arith;
    others = λ k low high. absurd (omega arith);
    here = λ l'. sym same;
  }

  next_before : (p n at : ℕ) → p ≢ seat plan n → NextOn plan p (n + 1) at → NextOn plan p n at
  next_before p n at other was = record {
    later = omega (arith, was.later);
    within = was.within;
    others = λ k low high. elim (cases_eq k n) [
      | inl this ↦ λ e. other (sym e ∙ ap (seat plan) this)
      | inr above ↦ was.others k (omega arith) high
    ];
    here = was.here;
  }

  pub chained_none : (heads nexts : List ℕ) → length heads ≡ 33 → length nexts ≡ 64 → ((p : ℕ) → p ≤ 32 → slice_index heads p ≡ models_of plan.set) → ChainedFrom plan (models_of plan.set) heads nexts
  chained_none heads nexts h n all = record {
    starts = λ p l. subst (λ k. NextOn plan p (models_of plan.set) k) (sym (all p l)) (next_none p);
    goes = λ k low high. absurd (omega arith);
    long_heads = h;
    long_nexts = n;
  }

  pub chains_blank : ChainedFrom plan (models_of plan.set) (replicate 33 (models_of plan.set)) (replicate 64 (models_of plan.set))
  chains_blank = chained_none (replicate 33 (models_of plan.set)) (replicate 64 (models_of plan.set)) (length-replicate 33 (models_of plan.set)) (length-replicate 64 (models_of plan.set)) (λ p l. get_or-replicate 33 p (models_of plan.set) 0 (omega arith))

  pub chained_more : (n m : ℕ) (heads nexts heads' nexts' : List ℕ) → m ≡ n + 1 → n < models_of plan.set → ChainedFrom plan m heads nexts
      → nexts' ≡ slice_set nexts n (slice_index heads (seat plan n)) → heads' ≡ slice_set heads (seat plan n) n → ChainedFrom plan n heads' nexts'
  chained_more n m heads nexts heads' nexts' next l was is_nexts is_heads =
      let w = seat plan n in
      record {
        starts = λ p few. elim (cases_eq p w) [
          | inl same ↦
              let at : slice_index heads' p ≡ n = ap (λ t. slice_index t p) is_heads ∙ ap (slice_index (slice_set heads w n)) same ∙ get_or-set_same heads w n 0 (omega (arith, seat_few n l, was.long_heads)) in
              subst (λ k. NextOn plan p n k) (sym at) (next_here p n l same)
          | inr other ↦
              let at : slice_index heads' p ≡ slice_index heads p = ap (λ t. slice_index t p) is_heads ∙ get_or-set_other heads w p n 0 (λ e. other (omega arith)) in
              subst (λ k. NextOn plan p n k) (sym at) (next_before p n (slice_index heads p) other (subst (λ j. NextOn plan p j (slice_index heads p)) next (was.starts p few)))
        ];
        goes = λ k low high. elim (cases_eq k n) [
          | inl this ↦
              let at : slice_index nexts' k ≡ slice_index heads w = ap (λ t. slice_index t k) is_nexts ∙ ap (slice_index (slice_set nexts n (slice_index heads w))) this ∙ get_or-set_same nexts n (slice_index heads w) 0 (omega (arith, was.long_nexts, plan.set.sizes.few_models)) in
              let now : NextOn plan w (n + 1) (slice_index heads w) = subst (λ j. NextOn plan w j (slice_index heads w)) next (was.starts w (seat_few n l)) in
              subst (λ j. NextOn plan (seat plan k) (k + 1) j) (sym at) (subst (λ j. NextOn plan (seat plan j) (j + 1) (slice_index heads w)) (sym this) now)
          | inr above ↦
              let at : slice_index nexts' k ≡ slice_index nexts k = ap (λ t. slice_index t k) is_nexts ∙ get_or-set_other nexts n k (slice_index heads w) 0 (λ e. above (omega arith)) in
              subst (λ j. NextOn plan (seat plan k) (k + 1) j) (sym at) (was.goes k (omega arith) high)
        ];
        long_heads = ap length is_heads ∙ length-set heads w n ∙ was.long_heads;
        long_nexts = ap length is_nexts ∙ length-set nexts n (slice_index heads w) ∙ was.long_nexts;
      }

  -- a model whose seat is elsewhere does not wait here
  whole_seat : (p : ℕ) (x : Pieces) → IsTrue (whole_on p x) → worker_of x ≡ p
  whole_seat p (Whole worker size) h = eqb-true worker p h
  whole_seat p (Divided worker first second) h = absurd (cc)

  elsewhere : (records : List Record) (p k : ℕ) → seat plan k ≢ p → IsFalse (waits_on plan records p (k + 1))
  elsewhere records p k other = elim (cases_Bool (waits_on plan records p (k + 1))) [
    | inl is ↦ absurd (other (let e : k + 1 - 1 ≡ k = omega arith in subst (λ j. seat plan j ≡ p) e (whole_seat p ((rack_of plan).pieces (k + 1)) (and_parts _ _ is).1)))
    | inr off ↦ off
  ]

  -- nor has it a piece here
  no_piece : (second : Bool) (p : ℕ) (x : Pieces) → 1 ≤ p → worker_of x ≢ chain_with second p → head_of second p x ≡ 0
  no_piece true p (Whole worker size) some other = refl
  no_piece false p (Whole worker size) some other = refl
  no_piece true p (Divided worker first second) some other = elim (cases_Bool (worker + 1 == p)) [
    | inl is ↦ absurd (other (let h = eqb-true (worker + 1) p is in omega arith))
    | inr off ↦ rw off refl
  ]
  no_piece false p (Divided worker first second) some other = elim (cases_Bool (worker == p)) [
    | inl is ↦ absurd (other (eqb-true worker p is))
    | inr off ↦ rw off refl
  ]

module _ (takes : ℕ → Bool) (run : ℕ → Run) (precedes : Run → Run → Bool) (old q : Queue Run) where
  filled_on : (d n m : ℕ) → m ≡ n + d → ((k : ℕ) → n ≤ k → k < m → IsFalse (takes (k + 1))) → Filled takes run precedes n old q → Filled takes run precedes m old q
  filled_on zero n m e none was = let same : n ≡ m = omega arith in subst (λ j. Filled takes run precedes j old q) same was
  filled_on (suc d) n m e none was = filled_on d (n + 1) m (omega arith) (λ k low high. none k (omega arith) high) (filled_same takes run precedes old n q was (none n (omega arith) (omega arith)))

-- the queue holds the runs that wait of the models up to a slot of a worker's chain
pub record FilledTo (plan : Plan) (records : List Record) (run : ℕ → Run) (precedes : Run → Run → Bool) (p at : ℕ) (old new : Queue Run) : Type 0 where
  pub within : at ≤ models_of plan.set
  pub here : at < models_of plan.set → seat plan at ≡ p
  pub filled : Filled (waits_on plan records p) run precedes at old new

pub filled_to : (plan : Plan) (records : List Record) (run : ℕ → Run) (precedes : Run → Run → Bool) (p from at : ℕ) (old new : Queue Run) → NextOn plan p from at → Filled (waits_on plan records p) run precedes from old new → FilledTo plan records run precedes p at old new
filled_to plan records run precedes p from at old new next was = record {
  within = next.within;
  here = next.here;
  filled = filled_on (waits_on plan records p) run precedes old new (at - from) from at (omega (arith, next.later)) (λ k low high. elsewhere plan records p k (next.others k low high)) was;
}

-- what is at one end of a worker, of the models up to a slot
pub record Found (plan : Plan) (records : List Record) (second : Bool) (p n size m : ℕ) : Type 0 where
  pub size' : size ≡ up_to n (λ i. head_of second p ((rack_of plan).pieces i))
  pub few : size ≤ n * 4294967295
  pub model' : EndSoFar (has_run plan records) (λ i. head_of second p ((rack_of plan).pieces i)) n m

module _ (plan : Plan) (records : List Record) (second : Bool) (p : ℕ) (some : 1 ≤ p) (size m : ℕ) where
  found_skip : (n : ℕ) → seat plan n ≢ chain_with second p → Found plan records second p n size m → Found plan records second p (n + 1) size m
  found_skip n other was =
      let none : 0 ≡ head_of second p (pieces_at plan.pieces n) = sym (no_piece plan second p (pieces_at plan.pieces n) some other) in
      let e : size ≡ size + 0 = omega arith in
      record {
        size' = e ∙ size_more plan records second p n size 0 was.size' none;
        few = omega (arith, was.few);
        model' = none_more plan records second p n m 0 was.model' none refl;
      }

  found_on : (d n n' : ℕ) → n' ≡ n + d → ((k : ℕ) → n ≤ k → k < n' → seat plan k ≢ chain_with second p) → Found plan records second p n size m → Found plan records second p n' size m
  found_on zero n n' e none was = let same : n ≡ n' = omega arith in subst (λ j. Found plan records second p j size m) same was
  found_on (suc d) n n' e none was = found_on d (n + 1) n' (omega arith) (λ k low high. none k (omega arith) high) (found_skip n (none n (omega arith) (omega arith)) was)

-- of those up to a slot of the chain
pub record FoundTo (plan : Plan) (records : List Record) (second : Bool) (p at size m : ℕ) : Type 0 where
  pub within : at ≤ models_of plan.set
  pub here : at < models_of plan.set → seat plan at ≡ chain_with second p
  pub found : Found plan records second p at size m

pub found_to : (plan : Plan) (records : List Record) (second : Bool) (p from at size m : ℕ) → 1 ≤ p → NextOn plan (chain_with second p) from at → Found plan records second p from size m → FoundTo plan records second p at size m
found_to plan records second p from at size m some next was = record {
  within = next.within;
  here = next.here;
  found = found_on plan records second p some size m (at - from) from at (omega (arith, next.later)) next.others was;
}

pub chain_few : (second : Bool) (p : ℕ) → p ≤ 32 → chain_with second p ≤ 32
chain_few true p l = omega arith
chain_few false p l = l
