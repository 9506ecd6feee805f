-- When a model may have a worker at all.
use Rattle.std.proofs.Common.{◌≡◌, ℕ, ◌*◌, ◌≤◌, Bool, true, List, inl, inr, refl, ap, sym, ◌∙◌, mul-le-mul_right, arith}
use Rattle.std.specs.Bool.{IsTrue, ◌==◌}
use Rattle.std.proofs.lemmas.Bool.{cases_lt, both_ways, and_parts, not-true, cond_both, cond-true, eq-eqb}
use Rattle.kinds.specs.declared.runs.Run.{Run}
use Rattle.plan.specs.declared.plans.Plan.{Plan}
use Rattle.book.specs.Racks.{Rack, rack_of}
use Rattle.book.specs.Sheets.{Sheet, sheet_with, workers_with}
use Rattle.book.specs.Books.{Book, entered, without, present_of, date_of}
use Rattle.book.specs.Turns.{IsNext}
use Rattle.book.specs.Calls.{Call, Withdraw, Answer, Withdrew, Step, withdraws, Leads}
use Rattle.book.specs.Laws.{Lawful, Always, Reached, Within, OnlyRuns, NoneWithdrawn}
use Rattle.book.proofs.Keeps.{calls_keep}
use Rattle.book.proofs.Kept.{ok, apart, reached_sound}
use Rattle.refusal.proofs.Firsts.{passed}
use Rattle.book.proofs.Holders.{model_bounds}
use Rattle.book.proofs.Lives.{lives}
use Rattle.book.proofs.Changes.{not_sooner}
use Rattle.book.proofs.Entered.{workers_with_more, sheet_named}

module _ {plan : Plan} {dates : ℕ → ℕ → Bool} {spacings : ℕ → ℕ} {precedes : Run → Run → Bool} (lawful : Lawful plan dates spacings precedes) where
  abbrev rack : Rack
  rack = rack_of plan

  -- every part that a book's sheets give is between a date and the deadline
  abbrev AllWithin : Book → Type 0
  AllWithin b = (i x : ℕ) → 1 ≤ i → 1 ≤ workers_with rack.grain b.sheets i x → Within plan dates precedes i x

  sheet_within : (b : Book) (g : ℕ) (s : Sheet) → IsNext rack dates precedes b g s → (i x : ℕ) → 1 ≤ i → 1 ≤ sheet_with rack.grain s i x → Within plan dates precedes i x
  sheet_within b g s next i x some with =
      let named = sheet_named (ok lawful) dates precedes b g s next i x some with in
      let l = lives rack dates b i named.alive in
      let now = ap b.present named.here ∙ sym next.start' in
      record {
        date = date_of rack dates b i;
        dated = l.date;
        begun = omega (arith, mul-le-mul_right rack.grain (let h : date_of rack dates b i ≤ s.start = omega (arith, l.begun, now) in h), named.low);
        goes = omega (arith, mul-le-mul_right rack.grain (not_sooner (ok lawful) (apart lawful) precedes b g s next i l.used named.here named.alive), named.high);
      }

  within_entered : (b : Book) (g : ℕ) (s : Sheet) → IsNext rack dates precedes b g s → AllWithin b → AllWithin (entered b s)
  within_entered b g s next all i x some with = elim (cases_lt 0 (sheet_with rack.grain s i x)) [
    | inl new ↦ sheet_within b g s next i x some new
    | inr old ↦ all i x some (omega (arith, workers_with_more rack.grain b.sheets s i x))
  ]

  -- a withdrawn model stays so, and gets no more
  module _ (i x : ℕ) (some : 1 ≤ i) (b : Book) where
    record GoneSame (c : Book) : Type 0 where
      gone : IsTrue (c.withdrawn i)
      same : workers_with rack.grain c.sheets i x ≡ workers_with rack.grain b.sheets i x

    gone_same : (c : Book) (g : ℕ) (s : Sheet) → IsNext rack dates precedes c g s → GoneSame c → GoneSame (entered c s)
    gone_same c g s next held = record {
      gone = held.gone;
      same = elim (cases_lt 0 (sheet_with rack.grain s i x)) [
        | inl new ↦
            let used = (lives rack dates c i (sheet_named (ok lawful) dates precedes c g s next i x some new).alive).used in
            absurd (both_ways _ (not-true _ (and_parts _ _ used).1) held.gone)
        | inr old ↦ omega (arith, workers_with_more rack.grain c.sheets s i x, held.same)
      ];
    }

    gone_stays : (calls : List Call) (answers : List Answer) (e : Book) → Leads rack dates precedes b calls answers e → IsTrue (b.withdrawn i) → workers_with rack.grain e.sheets i x ≡ workers_with rack.grain b.sheets i x
    gone_stays calls answers e led gone = (calls_keep GoneSame gone_same (λ c j held. record { gone = cond_both (i == j) true (c.withdrawn i) IsTrue (λ e. refl) (λ e. held.gone); same = held.same }) led (record { gone = gone; same = refl })).same

  -- from the withdrawal on
  since : (b : Book) (i : ℕ) (c e : Book) → Reached plan dates precedes b → Step rack dates precedes b (Withdraw i) Withdrew c → (calls : List Call) (answers : List Answer) → Leads rack dates precedes c calls answers e
      → (x : ℕ) → present_of rack b i * rack.grain ≤ x → workers_with rack.grain e.sheets i x ≡ 0
  since b _ _ e reached (withdraws i none) calls answers led x late =
      let some = (model_bounds (ok lawful) i (passed _ _ _ none).0).0 in
      gone_stays i x some (without b i) calls answers e led (cond-true (i == i) true (b.withdrawn i) (eq-eqb i i refl)) ∙ (reached_sound lawful b reached).past i x some late

pub only_runs : Always OnlyRuns
only_runs plan dates spacings precedes lawful b reached i x model = calls_keep (AllWithin lawful) (within_entered lawful) (λ b i all. all) reached.led (λ i x some with. absurd (omega arith)) i x model.first

pub none_withdrawn : Always NoneWithdrawn
none_withdrawn plan dates spacings precedes lawful b c e reached i step calls answers led x late = since lawful b i c e reached step calls answers led x late
