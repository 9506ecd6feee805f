-- Where intervals end.
use Rattle.std.proofs.Common.{◌≡◌, ℕ, ◌+◌, ◌<◌, ◌⊎◌, ◌↔◌, Bool, ◌&&◌, ◌||◌, inl, inr, ap, sym, ◌∙◌, arith}
use Rattle.std.specs.Bool.{IsTrue, ◌==◌}
use Rattle.std.proofs.lemmas.Bool.{cases_lt, both_ways, and_parts, and_from, or_cases, or_left, or_right, eqb-true, eq-eqb, ne_eqb, cond-true, cond-false, not-true, false_from_ne_true}
use Rattle.kinds.specs.declared.runs.Run.{Run}
use Rattle.plan.specs.declared.plans.Plan.{Plan}
use Rattle.book.specs.Racks.{Rack, rack_of}
use Rattle.book.specs.Sheets.{Sheet, HasLength}
use Rattle.book.specs.Books.{Book, group_with, in_use, date_of, deadline_of, is_live, is_moment, AtRest}
use Rattle.book.specs.Calls.{Advance, Advanced, Step, advances}
use Rattle.book.specs.Laws.{Lawful, Always, Remains, HasRun, Due, Passes, EndsDue, GoesOn}
use Rattle.book.proofs.Sums.{some_of_at, some_of_which}
use Rattle.book.proofs.Racks.{within_both}
use Rattle.book.proofs.Lives.{lives}
use Rattle.book.proofs.Kept.{used_of, run_live}

module _ {plan : Plan} {dates : ℕ → ℕ → Bool} {spacings : ℕ → ℕ} {precedes : Run → Run → Bool} (lawful : Lawful plan dates spacings precedes) (b : Book) where
  abbrev rack : Rack
  rack = rack_of plan

  remains_of : (i : ℕ) → IsTrue (in_use rack b i) → Remains plan dates precedes b i
  remains_of i used =
      let both = and_parts _ _ used in
      let bounds = within_both 1 rack.models i both.0 in
      record { from_one = bounds.0; to_last = bounds.1; kept = not-true _ both.1 }

  run_of_live : (i : ℕ) → IsTrue (is_live rack dates b i) → HasRun plan dates precedes b i (date_of rack dates b i)
  run_of_live i alive =
      let l = lives rack dates b i alive in
      record { remains = remains_of i l.used; date = l.date; begun = l.begun; goes = l.goes }

  -- a moment that is ahead is one at which something is due
  due_at : (g t : ℕ) → b.present g < t → IsTrue (is_moment rack dates b g t) → Due plan dates precedes b g t
  due_at g t later moment =
      let run = λ (i : ℕ). is_live rack dates b i && (deadline_of rack dates b i == t) in
      let (i, which) = some_of_which rack.models (λ i. (group_with rack i == g) && (in_use rack b i && (dates i t || run i))) moment in
      let group = and_parts (group_with rack i == g) (in_use rack b i && (dates i t || run i)) which.2 in
      let used = and_parts (in_use rack b i) (dates i t || run i) group.1 in
      let why : IsTrue (dates i t) ⊎ ((d : ℕ) × (HasRun plan dates precedes b i d × (d + rack.period i ≡ t))) = elim (or_cases (dates i t) (run i) used.1) [
        | inl date ↦ inl date
        | inr last ↦ let both = and_parts (is_live rack dates b i) (deadline_of rack dates b i == t) last in inr (date_of rack dates b i, (run_of_live i both.0, eqb-true (deadline_of rack dates b i) t both.1))
      ] in
      record { ahead = later; who = i; remains = remains_of i used.0; here = eqb-true (group_with rack i) g group.0; why = why }

  -- and at a tick at which something is due there is a moment
  moment_at : (g t : ℕ) → Due plan dates precedes b g t → IsTrue (is_moment rack dates b g t)
  moment_at g t due =
      let i = due.who in
      let why : IsTrue (dates i t || (is_live rack dates b i && (deadline_of rack dates b i == t))) = elim due.why [
        | inl date ↦ or_left _ _ date
        | inr last ↦
            let now = run_live lawful b i last.0 last.1.0 in
            or_right _ _ (and_from _ _ now.0 (eq-eqb _ _ (ap (λ d. d + rack.period i) now.1 ∙ last.1.1)))
      ] in
      some_of_at rack.models _ i due.remains.from_one due.remains.to_last (and_from _ _ (eq-eqb _ _ due.here) (and_from _ _ (used_of lawful b i due.remains) why))

  ends_so : (g words things : ℕ) (s : Sheet) (c : Book) → Step rack dates precedes b (Advance g words things) (Advanced s) c → Passes plan dates precedes b c g s
  ends_so _ _ _ _ _ (advances g words things s none next) = record {
    from = next.start';
    due = due_at g s.end (omega (arith, next.moment.later)) next.moment.date;
    first = λ t due. elim (cases_lt t s.end) [
      | inl sooner ↦ absurd (both_ways _ (next.moment.first t (omega (arith, due.ahead)) sooner) (moment_at g t due))
      | inr later ↦ later
    ];
    to = cond-true (g == s.group) s.end (b.present g) (eq-eqb g s.group (sym next.group'));
    others = λ h other. cond-false (h == s.group) s.end (b.present h) (ne_eqb h s.group (λ e. other (e ∙ next.group')));
  }

  -- so a group has no later moment just where nothing is due
  rest_is : (g : ℕ) → AtRest rack dates b g ↔ ((t : ℕ) → Due plan dates precedes b g t → ⊥)
  rest_is g = (
    λ rest t due. both_ways _ (rest t (omega (arith, due.ahead))) (moment_at g t due),
    λ none t later. false_from_ne_true _ (λ moment. none t (due_at g t (omega arith) moment)),
  )

  goes_so : (g words things : ℕ) (s : Sheet) (c : Book) → Step rack dates precedes b (Advance g words things) (Advanced s) c → HasLength s
  goes_so _ _ _ _ _ (advances g words things s none next) = omega (arith, next.moment.later, next.start')

pub ends_due : Always EndsDue
ends_due plan dates spacings precedes lawful b reached g = ((λ c words things s step long. ends_so lawful b g words things s c step), rest_is lawful b g)

pub goes_on : Always GoesOn
goes_on plan dates spacings precedes lawful b c reached g words things s step = goes_so lawful b g words things s c step
