-- What a tick makes of the phases of a group.
use Rattle.std.proofs.Common.{◌≡◌, ◌≢◌, ℕ, ◌+◌, ◌-◌, ◌<◌, ◌≤◌, Bool, List, None, Some, Option, length, inl, inr, refl, ap, sym, ◌∙◌, subst, arith, get_or-set_same, get_or-set_other}
use Rattle.std.proofs.lemmas.List.{length-set}
use Rattle.std.specs.Prelude.{slice_set}
use Rattle.std.specs.Bool.{nat_eq}
use Rattle.std.specs.Option.{option_eq}
use Rattle.std.proofs.lemmas.Bool.{cases_eq}
use Rattle.set.specs.Sets.{period_of}
use Rattle.plan.specs.declared.plans.Plan.{Plan}
use Rattle.book.specs.Racks.{Rack, rack_of}
use Rattle.book.specs.Books.{group_with}
use Rattle.book.proofs.Racks.{within_both}
use Rattle.roster.specs.declared.phase.Phase.{Phase}
use Rattle.roster.specs.declared.record.Record.{Record}
use Rattle.roster.specs.Records.{phase_at}
use Rattle.roster.specs.Advancing.{settled, Settled}
use Rattle.roster.specs.Coming.{coming_at, is_at, dates_in}

same_at : (o : Option ℕ) (t : ℕ) → option_eq nat_eq o (Some t) ≡ is_at t o
same_at None t = refl
same_at (Some d) t = refl

module _ (plan : Plan) (dates : ℕ → ℕ → Bool) (g t : ℕ) (old : List Record) where
  abbrev rack : Rack
  rack = rack_of plan

  -- what becomes of model i, if it is in the group
  abbrev after : ℕ → Phase
  after i = settled (rack.period i) (dates i t) t (phase_at old (i - 1))

  -- of the first n models those in the group are settled, and the other records are as they were
  pub record SettledFirst (n : ℕ) (new : List Record) : Type 0 where
    pub here : (i : ℕ) → 1 ≤ i → i ≤ n → group_with rack i ≡ g → phase_at new (i - 1) ≡ after i
    pub rest : (k : ℕ) → (k < n → group_with rack (k + 1) ≢ g) → phase_at new k ≡ phase_at old k
    pub long : length new ≡ length old

  pub settled_none : SettledFirst 0 old
  settled_none = record { here = λ i some last same. absurd (omega arith); rest = λ k out. refl; long = refl }

  pub settled_more : (n : ℕ) (mid new : List Record) (dated : Bool) → n < length old → group_with rack (n + 1) ≡ g → dated ≡ dates (n + 1) t
      → new ≡ slice_set mid n (record { phase = settled (period_of plan.set n) dated t (phase_at mid n) }) → SettledFirst n mid → SettledFirst (n + 1) new
  settled_more n mid new dated small same date is was =
      let last : phase_at new n ≡ settled (period_of plan.set n) (dates (n + 1) t) t (phase_at old n) =
      rw is (ap (λ (r : Record). r.phase) (get_or-set_same mid n _ _ (omega (arith, was.long))) ∙ ap (λ d. settled (period_of plan.set n) d t (phase_at mid n)) date ∙ ap (settled (period_of plan.set n) (dates (n + 1) t) t) (was.rest n (λ l. absurd (omega arith)))) in
      let e : n ≡ n + 1 - 1 = omega arith in
      let here : phase_at new (n + 1 - 1) ≡ after (n + 1) = subst (λ k. phase_at new k ≡ settled (period_of plan.set k) (dates (n + 1) t) t (phase_at old k)) e last in
      let other : (k : ℕ) → k ≢ n → phase_at new k ≡ phase_at mid k = λ k ne. rw is (ap (λ (r : Record). r.phase) (get_or-set_other mid n k _ _ ne)) in
      record {
        here = λ i some l its. elim (cases_eq i (n + 1)) [
          | inl this ↦ subst (λ j. phase_at new (j - 1) ≡ after j) (sym this) here
          | inr below ↦ other (i - 1) (λ e. below (omega arith)) ∙ was.here i some (omega arith) its
        ];
        rest = λ k out. other k (λ e. out (omega arith) (subst (λ j. group_with rack (j + 1) ≡ g) (sym e) same)) ∙ was.rest k (λ l. out (omega arith));
        long = rw is (length-set mid n _) ∙ was.long;
      }

  pub settled_skip : (n : ℕ) (mid : List Record) → group_with rack (n + 1) ≢ g → SettledFirst n mid → SettledFirst (n + 1) mid
  settled_skip n mid other was = record {
    here = λ i some last same. elim (cases_eq i (n + 1)) [
      | inl this ↦ absurd (other (subst (λ j. group_with rack j ≡ g) this same))
      | inr below ↦ was.here i some (omega arith) same
    ];
    rest = λ k out. was.rest k (λ l. out (omega arith));
    long = was.long;
  }

  pub settled_all : (new : List Record) → SettledFirst rack.models new → Settled plan dates g t old new
  settled_all new was = (
    (λ i model same. let w = within_both 1 rack.models i model in was.here i w.0 w.1 same),
    (λ i model other. let w = within_both 1 rack.models i model in let e : i - 1 + 1 ≡ i = omega (arith, w.0) in was.rest (i - 1) (λ l same. other (subst (λ j. group_with rack j ≡ g) e same))),
  )

-- a slot of the table has this tick
pub date_here : (table : List (Option ℕ)) (n t : ℕ) (dated : Bool) → dated ≡ option_eq nat_eq (coming_at table n) (Some t) → dated ≡ dates_in table (n + 1) t
date_here table n t dated is = let e : n ≡ n + 1 - 1 = omega arith in is ∙ same_at (coming_at table n) t ∙ ap (λ k. is_at t (coming_at table k)) e
