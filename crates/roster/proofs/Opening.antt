-- What an opening refuses, and what it begins with.
use Rattle.std.proofs.Common.{◌≡◌, ℕ, ◌+◌, ◌-◌, ◌<◌, ◌≤◌, Bool, true, false, ◌&&◌, ◌*◌, List, [], length, inl, inr, refl, ap, sym, ◌∙◌, arith, None, Some, Option, subst, get_or-set_same, get_or-set_other}
use Rattle.std.specs.Bool.{IsTrue, IsFalse, nat_le, nat_lt}
use Rattle.std.specs.Prelude.{if◌then◌else◌, replicate, is_none}
use Rattle.std.proofs.lemmas.Bool.{cases_eq, le-leb, lt-leb, lt-ltb, and_from}
use Rattle.refusal.specs.Refusals.{Complaint, check, first_below}
use Rattle.refusal.specs.declared.Layer.TheVariants.{Opening}
use Rattle.refusal.proofs.Firsts.{first_more, first_stays}
use Rattle.kinds.specs.declared.runs.Run.{Run}
use Rattle.plan.specs.declared.plans.Plan.{Plan}
use Rattle.book.specs.Racks.{Rack, rack_of}
use Rattle.book.specs.Books.{blank, is_model_of, served}
use Rattle.book.specs.Calls.{about_opening, ends}
use Rattle.book.proofs.Racks.{within_both, rack_of-IsRack}
use Rattle.book.specs.Sheets.{got, workers_with}
use Rattle.book.proofs.Sums.{between_none}
use Rattle.roster.specs.declared.phase.Phase.{Phase}
use Rattle.roster.specs.declared.phase.Phase.TheVariants.{Waiting, Live}
use Rattle.roster.specs.declared.event.Event.TheVariants.{Date}
use Rattle.roster.specs.declared.record.Record.{Record}
use Rattle.roster.specs.Records.{met, phase_at, altered}
use Rattle.roster.specs.Telling.{phase_of, IsBook}
use Rattle.set.proofs.Blanks.{get_or_blank}

-- the first complaint about the first n models
abbrev pub about_first : Plan → (ℕ → ℕ) → ℕ → Option Complaint
about_first plan spacings n = first_below (λ k. check (nat_le ((rack_of plan).period (k + 1)) (spacings (k + 1))) (record { number = 8; layer = Opening; place = k + 1 }) None) n

module _ (plan : Plan) (spacings : ℕ → ℕ) (i : ℕ) (some : 1 ≤ i) where
  same : i - 1 + 1 ≡ i
  same = omega arith

  pub about_more : about_first plan spacings (i - 1) ≡ None → (rack_of plan).period i ≤ spacings i → about_first plan spacings i ≡ None
  about_more none fits = subst (λ n. about_first plan spacings n ≡ None) same (first_more _ (i - 1) none (rw same (rw (le-leb _ _ fits) refl)))

  pub about_here : i ≤ (rack_of plan).models → about_first plan spacings (i - 1) ≡ None → spacings i < (rack_of plan).period i → about_opening (rack_of plan) spacings ≡ Some (record { number = 8; layer = Opening; place = i })
  about_here last none near = first_stays _ (rack_of plan).models (i - 1) _ (omega arith) none (rw same (rw (lt-leb _ _ near) refl))

-- nothing is got where nothing is told
none_got : (grain i : ℕ) → got grain [] i (0 * grain) (0 * grain) ≡ 0
none_got grain i = between_none (0 * grain) (0 * grain) (workers_with grain [] i) (λ x l m. absurd (omega arith))

run_phase : (used dated goes : Bool) (got : ℕ) → used ≡ true → dated ≡ true → goes ≡ true → got ≡ 0 → (if used && (dated && goes) then Live 0 got else Waiting) ≡ Live 0 0
run_phase used dated goes got a b c d = rw (a, b, c, d) refl

no_phase : (used dated goes : Bool) (run : Phase) → dated ≡ false → (if used && (dated && goes) then run else Waiting) ≡ Waiting
no_phase true dated goes run e = rw e refl
no_phase false dated goes run e = refl

module _ (plan : Plan) (dates : ℕ → ℕ → Bool) where
  abbrev rack : Rack
  rack = rack_of plan

  pub phase_dated : (i : ℕ) → IsTrue (is_model_of rack i) → IsTrue (dates i 0) → phase_of rack dates blank i ≡ Live 0 0
  phase_dated i model date =
      let w = within_both 1 rack.models i model in
      let fine = (rack_of-IsRack plan).fine i w.0 w.1 in
      run_phase (is_model_of rack i && true) (dates i 0) (nat_lt 0 (0 + rack.period i)) (served rack dates blank i) (and_from _ _ model refl) date (lt-ltb _ _ (omega (arith, fine.some_period))) (none_got rack.grain i)

  pub phase_undated : (i : ℕ) → IsFalse (dates i 0) → phase_of rack dates blank i ≡ Waiting
  phase_undated i none = no_phase (is_model_of rack i && true) (dates i 0) (nat_lt 0 (0 + rack.period i)) _ none

  -- the first n records are as the blank book says, and the others wait
  pub record Started (n : ℕ) (records : List Record) : Type 0 where
    pub done : (i : ℕ) → 1 ≤ i → i ≤ n → phase_at records (i - 1) ≡ phase_of rack dates blank i
    pub rest : (k : ℕ) → n ≤ k → phase_at records k ≡ Waiting

  pub started_dated : (n : ℕ) (records new : List Record) → n < 64 → length records ≡ 64 → IsTrue (is_model_of rack (n + 1)) → IsTrue (dates (n + 1) 0) → new ≡ altered records n (λ p. met p (Date 0)) → Started n records → Started (n + 1) new
  started_dated n records new small full model date is was = record {
    done = λ i some last. rw is (elim (cases_eq i (n + 1)) [
      | inl this ↦
          let k : i - 1 ≡ n = omega arith in
          subst (λ j. phase_at (altered records n (λ p. met p (Date 0))) j ≡ phase_of rack dates blank i) (sym k) (subst (λ j. phase_at (altered records n (λ p. met p (Date 0))) n ≡ phase_of rack dates blank j) (sym this) (ap (λ (r : Record). r.phase) (get_or-set_same records n _ _ (omega arith)) ∙ ap (λ (p : Phase). met p (Date 0)) (was.rest n (omega arith)) ∙ sym (phase_dated (n + 1) model date)))
      | inr other ↦ ap (λ (r : Record). r.phase) (get_or-set_other records n (i - 1) _ _ (omega arith)) ∙ was.done i some (omega arith)
    ]);
    rest = λ k l. rw is (ap (λ (r : Record). r.phase) (get_or-set_other records n k _ _ (omega arith)) ∙ was.rest k (omega arith));
  }

  pub started_undated : (n : ℕ) (records : List Record) → IsFalse (dates (n + 1) 0) → Started n records → Started (n + 1) records
  started_undated n records none was = record {
    done = λ i some last. elim (cases_eq i (n + 1)) [
      | inl this ↦
          let k : i - 1 ≡ n = omega arith in
          subst (λ j. phase_at records j ≡ phase_of rack dates blank i) (sym k) (subst (λ j. phase_at records n ≡ phase_of rack dates blank j) (sym this) (was.rest n (omega arith) ∙ sym (phase_undated (n + 1) none)))
      | inr other ↦ was.done i some (omega arith)
    ];
    rest = λ k l. was.rest k (omega arith);
  }

  pub opened_says : (precedes : Run → Run → Bool) (records : List Record) → ((i : ℕ) → IsTrue (is_model_of rack i) → phase_at records (i - 1) ≡ phase_of rack dates blank i) → IsBook plan dates precedes (replicate 32 0) (replicate 32 false) records blank
  opened_says precedes records start = record {
    reached = record { calls = []; answers = []; led = ends blank };
    present' = λ g h. get_or_blank 32 (g - 1) 0;
    mirrored' = λ g h. get_or_blank 32 (g - 1) false;
    phases = start;
  }

  pub spaced_is : (spacings : ℕ → ℕ) → about_opening rack spacings ≡ None → is_none (about_opening rack spacings) ≡ true
  spaced_is spacings none = ap is_none none
