-- What a withdrawal makes of a roster that tells a book.
use Rattle.std.proofs.Common.{◌≡◌, ℕ, ◌-◌, ◌≢◌, Bool, true, false, List, length, inl, inr, refl, ap, sym, ◌∙◌, arith, None, Some, get_or-set_same, get_or-set_other}
use Rattle.std.specs.Prelude.{if◌then◌else◌}
use Rattle.std.specs.Bool.{IsTrue, IsFalse, ◌==◌}
use Rattle.std.proofs.lemmas.Bool.{cases_eq, eq-eqb, ne_eqb, le-leb, false_from_ne_true, and_from, cond-true, cond-false}
use Rattle.refusal.specs.Refusals.{told}
use Rattle.refusal.specs.declared.Layer.TheVariants.{Running}
use Rattle.refusal.specs.declared.Refusal.{Refusal}
use Rattle.kinds.specs.declared.runs.Run.{Run}
use Rattle.set.specs.Sets.{HasModel}
use Rattle.plan.specs.declared.plans.Plan.{Plan}
use Rattle.book.specs.Racks.{Rack, rack_of}
use Rattle.book.specs.Books.{Book, without, is_model_of}
use Rattle.book.specs.Calls.{Call, Withdraw, Answer, Refused, withdraws, declines, about}
use Rattle.book.proofs.Racks.{within_both}
use Rattle.book.proofs.Keeps.{reached_more}
use Rattle.roster.specs.declared.phase.Phase.{Phase}
use Rattle.roster.specs.declared.phase.Phase.TheVariants.{Waiting, Live, Withdrawn}
use Rattle.roster.specs.declared.event.Event.TheVariants.{Withdrawal}
use Rattle.roster.specs.declared.record.Record.{Record}
use Rattle.roster.specs.Records.{met, altered}
use Rattle.calendar.specs.declared.Calendar.{Ghosts as CalendarMeaning}
use Rattle.order.specs.declared.Order.{Ghosts as OrderMeaning}
use Rattle.order.specs.declared.Thing.{Ghosts as ThingMeaning}
use Rattle.roster.specs.declared.Roster.{Roster}
use Rattle.roster.proofs.Keeping.{keeps_so}
use Rattle.roster.specs.Keeping.{IsBookOf, Keeps}
use Rattle.roster.specs.Telling.{phase_of, IsBook}

module _ (plan : Plan) where
  pub has_model : (i : ℕ) → HasModel plan.set i → IsTrue (is_model_of (rack_of plan) i)
  has_model i h = and_from _ _ (le-leb _ _ h.first) (le-leb _ _ h.last)

  pub no_model : (i : ℕ) → (HasModel plan.set i → ⊥) → IsFalse (is_model_of (rack_of plan) i)
  no_model i none = false_from_ne_true _ (λ h. let w = within_both 1 (rack_of plan).models i h in absurd (none (record { first = w.0; last = w.1 })))

met_withdrawal : (p : Phase) → met p Withdrawal ≡ Withdrawn
met_withdrawal Waiting = refl
met_withdrawal (Live date served) = refl
met_withdrawal Withdrawn = refl

gone_of : (gone live : Bool) (d x : ℕ) → (if gone then Withdrawn else if live then Live d x else Waiting) ≡ Withdrawn → IsTrue gone
gone_of true live d x is = refl
gone_of false true d x is = cc
gone_of false false d x is = cc

module _ (rack : Rack) (dates : ℕ → ℕ → Bool) (b : Book) where
  pub gone_phase : (i : ℕ) → IsTrue (b.withdrawn i) → phase_of rack dates b i ≡ Withdrawn
  gone_phase i gone = rw gone refl

  pub phase_gone : (i : ℕ) → phase_of rack dates b i ≡ Withdrawn → IsTrue (b.withdrawn i)
  phase_gone i is = gone_of _ _ _ _ is

  pub phase_kept : (i : ℕ) → phase_of rack dates b i ≢ Withdrawn → IsFalse (b.withdrawn i)
  phase_kept i other = false_from_ne_true _ (λ gone. absurd (other (gone_phase i gone)))

  pub about_none : (i : ℕ) → IsFalse (is_model_of rack i) → about rack b (Withdraw i) ≡ Some (record { number = 11; layer = Running; place = i })
  about_none i none = rw none refl

  pub about_gone : (i : ℕ) → IsTrue (is_model_of rack i) → IsTrue (b.withdrawn i) → about rack b (Withdraw i) ≡ Some (record { number = 13; layer = Running; place = i })
  about_gone i model gone = rw (model, gone) refl

  pub about_kept : (i : ℕ) → IsTrue (is_model_of rack i) → IsFalse (b.withdrawn i) → about rack b (Withdraw i) ≡ None
  about_kept i model kept = rw (model, kept) refl

  phase_without : (i j : ℕ) → j ≢ i → phase_of rack dates (without b i) j ≡ phase_of rack dates b j
  phase_without i j other = rw (cond-false (j == i) true (b.withdrawn j) (ne_eqb j i other)) refl

  phase_without_same : (i : ℕ) → phase_of rack dates (without b i) i ≡ Withdrawn
  phase_without_same i = rw (cond-true (i == i) true (b.withdrawn i) (eq-eqb i i refl)) refl

module _ {plan : Plan} {dates : ℕ → ℕ → Bool} {precedes : Run → Run → Bool} {presents : List ℕ} {mirrored : List Bool} (records new : List Record) (b : Book) (i : ℕ) where
  -- the roster that tells a book tells the one without a model when that model's record has met its withdrawal
  pub withdrawn_says : IsBook plan dates precedes presents mirrored records b → length records ≡ 64 → IsTrue (is_model_of (rack_of plan) i) → about (rack_of plan) b (Withdraw i) ≡ None → new ≡ altered records (i - 1) (λ p. met p Withdrawal) → IsBook plan dates precedes presents mirrored new (without b i)
  withdrawn_says says full model fine is = record {
    reached = reached_more says.reached (withdraws i fine);
    present' = says.present';
    mirrored' = says.mirrored';
    phases = λ j m.
        let wi = within_both 1 (rack_of plan).models i model in
        let wj = within_both 1 (rack_of plan).models j m in
        rw is (elim (cases_eq j i) [
          | inl same ↦ rw same (ap (λ (r : Record). r.phase) (get_or-set_same records (i - 1) _ _ (omega (arith, full, plan.set.sizes.few_models))) ∙ met_withdrawal _ ∙ sym (phase_without_same (rack_of plan) dates b i))
          | inr other ↦ ap (λ (r : Record). r.phase) (get_or-set_other records (i - 1) (j - 1) _ _ (omega arith)) ∙ says.phases j m ∙ sym (phase_without (rack_of plan) dates b i j other)
        ]);
  }

module _ {C O : Type 0} {calendar : CalendarMeaning C} {order : OrderMeaning O Run} {thing : ThingMeaning Run} where
  pub refused : (x : Roster C O calendar order thing) (call : Call) (e : Refusal) → ((b : Book) → IsBookOf x b → about (rack_of x.plan.now) b call ≡ Some (told e)) → (gives : Answer → Type 0) → gives (Refused (told e)) → Keeps x call gives x
  refused x call e why gives is = keeps_so refl refl refl (λ b tells. record { answer = Refused (told e); after = b; step = declines call (told e) (why b tells); gives' = is; is = tells })
