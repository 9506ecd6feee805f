-- The dates to come of the first few models of a group, and their next moment.
use Rattle.std.proofs.Common.{◌≡◌, ◌≢◌, ℕ, ◌+◌, ◌-◌, ◌<◌, ◌≤◌, Bool, List, inl, inr, ap, sym, ◌∙◌, length, subst, arith, None, Option, get_or-set_same, get_or-set_other}
use Rattle.std.specs.Prelude.{if◌then◌else◌, slice_set}
use Rattle.std.specs.Bool.{IsTrue, IsFalse, ◌==◌}
use Rattle.std.proofs.lemmas.Bool.{cases_eq, cond-true, cond-false}
use Rattle.std.proofs.lemmas.List.{length-set}
use Rattle.set.specs.Sets.{period_of}
use Rattle.plan.specs.declared.plans.Plan.{Plan}
use Rattle.book.specs.Racks.{rack_of}
use Rattle.book.specs.Books.{group_with}
use Rattle.roster.specs.declared.phase.Phase.{Phase}
use Rattle.roster.specs.declared.phase.Phase.TheVariants.{Withdrawn}
use Rattle.roster.specs.declared.record.Record.{Record}
use Rattle.roster.specs.Records.{phase_at}
use Rattle.roster.specs.Advancing.{Soonest}
use Rattle.roster.specs.Coming.{earlier, moment_of, coming_at, next_of}
use Rattle.roster.proofs.Soonest.{earliest_more, earlier_none}

-- the table has the dates of those of the first n models that are asked for
module _ (plan : Plan) (dates : ℕ → ℕ → Bool) (records : List Record) (g from : ℕ) where
  pub record AskedFirst (n : ℕ) (table : List (Option ℕ)) : Type 0 where
    pub asked : (i : ℕ) → 1 ≤ i → i ≤ n → group_with (rack_of plan) i ≡ g → phase_at records (i - 1) ≢ Withdrawn → Soonest (dates i) from (coming_at table (i - 1))
    pub long : length table ≡ 64

  pub asked_none : (table : List (Option ℕ)) → length table ≡ 64 → AskedFirst 0 table
  asked_none table long = record { asked = λ i some last same kept. absurd (omega arith); long = long }

  pub asked_more : (n : ℕ) (old new : List (Option ℕ)) (p : Phase) (coming : Option ℕ) → n < 64 → p ≡ phase_at records n → (p ≢ Withdrawn → Soonest (dates (n + 1)) from coming) → new ≡ slice_set old n coming → AskedFirst n old → AskedFirst (n + 1) new
  asked_more n old new p coming small at told is was =
      record {
        asked = λ i some last same kept. elim (cases_eq i (n + 1)) [
          | inl this ↦
              let k : i - 1 ≡ n = omega arith in
              let here : coming_at new (i - 1) ≡ coming = ap (coming_at new) k ∙ ap (λ t. coming_at t n) is ∙ get_or-set_same old n coming None (omega (arith, was.long)) in
              let phase : phase_at records (i - 1) ≡ p = ap (phase_at records) k ∙ sym at in
              subst (λ j. Soonest (dates j) from (coming_at new (i - 1))) (sym this) (subst (λ o. Soonest (dates (n + 1)) from o) (sym here) (told (λ gone. kept (phase ∙ gone))))
          | inr below ↦
              let here : coming_at new (i - 1) ≡ coming_at old (i - 1) = ap (λ t. coming_at t (i - 1)) is ∙ get_or-set_other old n (i - 1) coming None (λ e. below (omega arith)) in
              subst (λ o. Soonest (dates i) from o) (sym here) (was.asked i some (omega arith) same kept)
        ];
        long = ap length is ∙ length-set old n coming ∙ was.long;
      }

  pub asked_skip : (n : ℕ) (table : List (Option ℕ)) → group_with (rack_of plan) (n + 1) ≢ g → AskedFirst n table → AskedFirst (n + 1) table
  asked_skip n table other was = record {
    asked = λ i some last same kept. elim (cases_eq i (n + 1)) [
      | inl this ↦ absurd (other (subst (λ j. group_with (rack_of plan) j ≡ g) this same))
      | inr below ↦ was.asked i some (omega arith) same kept
    ];
    long = was.long;
  }

-- the next moment of a model more
module _ (plan : Plan) (records : List Record) (table : List (Option ℕ)) (g n : ℕ) (r : Option ℕ) (was : r ≡ next_of plan records table g n) where
  abbrev of_model : ℕ → Option ℕ
  of_model i = if group_with (rack_of plan) i == g then moment_of ((rack_of plan).period i) (phase_at records (i - 1)) (coming_at table (i - 1)) else None

  more : (m : Option ℕ) → of_model (n + 1) ≡ m → earlier r m ≡ next_of plan records table g (n + 1)
  more m e = sym (earliest_more n of_model ∙ ap (earlier (next_of plan records table g n)) e ∙ ap (λ x. earlier x m) (sym was))

  pub next_more : (p : Phase) (m : Option ℕ) → p ≡ phase_at records n → m ≡ moment_of (period_of plan.set n) p (coming_at table n) → IsTrue (group_with (rack_of plan) (n + 1) == g) → earlier r m ≡ next_of plan records table g (n + 1)
  next_more p m at is same =
      let e : n + 1 - 1 ≡ n = omega arith in
      more m (cond-true (group_with (rack_of plan) (n + 1) == g) _ _ same ∙ ap (λ k. moment_of (period_of plan.set k) (phase_at records k) (coming_at table k)) e ∙ sym (is ∙ ap (λ q. moment_of (period_of plan.set n) q (coming_at table n)) at))

  pub next_skip : IsFalse (group_with (rack_of plan) (n + 1) == g) → r ≡ next_of plan records table g (n + 1)
  next_skip other = sym (earlier_none r) ∙ more None (cond-false (group_with (rack_of plan) (n + 1) == g) _ _ other)
