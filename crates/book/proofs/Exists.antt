-- Every list of calls has its answers.
use Rattle.std.proofs.Common.{◌≡◌, ℕ, zero, suc, ◌+◌, ◌-◌, ◌*◌, ◌^◌, ◌<◌, ◌≤◌, Bool, ◌&&◌, ◌||◌, ◌⊎◌, inl, inr, List, [], ◌∷◌, length, Option, None, Some, refl, arith}
use Rattle.std.specs.Bool.{IsTrue, IsFalse, ◌==◌}
use Rattle.std.proofs.lemmas.Bool.{cases_eq, cases_Bool, and_parts, or_cases, eqb-true, false_from_ne_true}
use Rattle.order.specs.Laws.{OrderLaws}
use Rattle.kinds.specs.declared.runs.Run.{Run}
use Rattle.refusal.proofs.Firsts.{passed}
use Rattle.dates.specs.Dates.{Earliest, NoneFrom, CalendarLaws}
use Rattle.book.specs.Racks.{Rack, rack_of}
use Rattle.book.specs.Sheets.{Row, Sheet}
use Rattle.book.specs.Books.{Book, blank, entered, without, group_with, in_use, date_of, deadline_of, is_live, is_moment}
use Rattle.book.specs.Turns.{IsRow, AreRows, IsNext, has}
use Rattle.book.specs.Calls.{Call, Answer, Step, Leads, about, no_moment, is_group, standing_of}
use Rattle.book.specs.Calls.Call.{Advance, Withdraw, AskStanding}
use Rattle.book.specs.Calls.Answer.{Advanced, Withdrew, Stands, Refused}
use Rattle.book.specs.Calls.Step.{declines, advances, rests, withdraws, stands}
use Rattle.book.specs.Calls.Leads.{ends, goes}
use Rattle.book.specs.Laws.{Always, OneAnswer}
use Rattle.book.proofs.Sums.{some_of_which}
use Rattle.book.proofs.Racks.{IsRack, within_both, rack_of-IsRack}
use Rattle.book.proofs.Holders.{live_model, one_holder}
use Rattle.book.proofs.Lives.{lives}
use Rattle.book.proofs.Rows.{some_row}
use Rattle.book.proofs.Once.{leads_once}

-- where the test fails at `from`, what it says of later places is all
none_here : (p : ℕ → Bool) (from t : ℕ) → IsFalse (p from) → (from + 1 ≤ t → IsFalse (p t)) → from ≤ t → IsFalse (p t)
none_here p from t miss later l = elim (cases_eq from t) [
  | inl same ↦ rw same at miss
  | inr other ↦ later (omega arith)
]

-- a test that fails from a bound on passes at an earliest place, or nowhere
some_earliest : (p : ℕ → Bool) (n bound from : ℕ) → bound ≤ from + n → ((t : ℕ) → IsTrue (p t) → t < bound) → ((d : ℕ) × Earliest p from d) ⊎ NoneFrom p from
some_earliest p zero bound from e small = inr (λ t l. false_from_ne_true (p t) (λ h. omega (arith, small t h)))
some_earliest p (suc n) bound from e small = elim (cases_Bool (p from)) [
  | inl here ↦ inl (from, record { later = omega arith; date = here; first = λ t l m. absurd (omega arith) })
  | inr miss ↦ elim (some_earliest p n bound (from + 1) (omega arith) small) [
    | inl found ↦ let w = found.1 in inl (found.0, record { later = omega (arith, w.later); date = w.date; first = λ t l m. none_here p from t miss (λ k. w.first t k m) l })
    | inr none ↦ inr (λ t l. none_here p from t miss (none t) l)
  ]
]

-- there is something or nothing, with the equation
cases_Option : {A : Type 0} (o : Option A) → ((x : A) × (o ≡ Some x)) ⊎ (o ≡ None)
cases_Option (Some x) = inl (x, refl)
cases_Option None = inr refl

module _ {rack : Rack} (ok : IsRack rack) (dates : ℕ → ℕ → Bool) (b : Book) where
  module _ {spacings : ℕ → ℕ} (calendar : CalendarLaws dates spacings) where
    -- a date is below 2^30, and a deadline is less than the longest period behind one
    pub moment_early : (g t : ℕ) → IsTrue (is_moment rack dates b g t) → t < 2 ^ 30 + 100801
    moment_early g t h =
        let date = λ (i : ℕ). dates i t in
        let due = λ (i : ℕ). is_live rack dates b i && (deadline_of rack dates b i == t) in
        let (i, which) = some_of_which rack.models (λ i. (group_with rack i == g) && (in_use rack b i && (date i || due i))) h in
        let when = and_parts (in_use rack b i) (date i || due i) (and_parts (group_with rack i == g) (in_use rack b i && (date i || due i)) which.2).1 in
        elim (or_cases (date i) (due i) when.1) [
          | inl hit ↦ omega (arith, calendar.early i t hit)
          | inr last ↦
              let parts = and_parts (is_live rack dates b i) (deadline_of rack dates b i == t) last in
              omega (arith, calendar.early i (date_of rack dates b i) (lives rack dates b i parts.0).date, (ok.fine i which.0 which.1).small_period, eqb-true (deadline_of rack dates b i) t parts.1)
        ]

    -- a group has a next moment or none
    some_moment : (g : ℕ) → ((t : ℕ) × Earliest (is_moment rack dates b g) (b.present g + 1) t) ⊎ NoneFrom (is_moment rack dates b g) (b.present g + 1)
    some_moment g = some_earliest (is_moment rack dates b g) (2 ^ 30 + 100801) (2 ^ 30 + 100801) (b.present g + 1) (omega arith) (moment_early g)

  module _ {precedes : Run → Run → Bool} (order : OrderLaws (λ (r : Run). r.model) (λ (r : Run). r.deadline) precedes) where
    -- the row of a worker
    one_row : (D p : ℕ) → 1 ≤ p → p ≤ rack.workers → (row : Row) × IsRow rack dates precedes b D p row
    one_row D p some last =
        some_row (rack.grain * D) rack.models (has rack dates precedes b D p)
        (λ i x h. (within_both 1 rack.models i (live_model ok dates b i (and_parts _ _ h).0)).1)
        (λ i j x l m. one_holder ok dates b precedes D p order some last i j x)

    -- the rows of n workers
    some_rows : (D n p : ℕ) → 1 ≤ p → p + n ≤ rack.workers + 1 → (rows : List Row) × ((length rows ≡ n) × AreRows rack dates precedes b D p rows)
    some_rows D zero p some last = ([], (refl, tt))
    some_rows D (suc n) p some last =
        let first = one_row D p some (omega arith) in
        let others = some_rows D n (p + 1) (omega arith) (omega arith) in
        (first.0 ∷ others.0, (omega (arith, others.1.0), (first.1, others.1.1)))

    -- the sheet up to a next moment
    some_sheet : (g t : ℕ) → IsTrue (is_group rack g) → Earliest (is_moment rack dates b g) (b.present g + 1) t → (s : Sheet) × IsNext rack dates precedes b g s
    some_sheet g t h moment =
        let (first, rest) = ok.groups g h in
        let (last, workers) = rest in
        let rows = some_rows (t - b.present g) (last + 1 - first) first workers.from_one (omega (arith, workers.within, workers.some)) in (
          record { group = g; start = b.present g; end = t; first = first; rows = rows.0 },
          record {
            group' = refl;
            start' = refl;
            moment = moment;
            last = last;
            workers = workers;
            all = omega (arith, rows.1.0, workers.some);
            rows' = rows.1.1;
          },
        )

module _ {rack : Rack} (ok : IsRack rack) {dates : ℕ → ℕ → Bool} {spacings : ℕ → ℕ} (calendar : CalendarLaws dates spacings) {precedes : Run → Run → Bool} (order : OrderLaws (λ (r : Run). r.model) (λ (r : Run). r.deadline) precedes) where
  -- an advance without a fault has a sheet, or its group is at rest
  some_advance : (b : Book) (g words things : ℕ) → about rack b (Advance g words things) ≡ None → (answer : Answer) × ((c : Book) × Step rack dates precedes b (Advance g words things) answer c)
  some_advance b g words things fine = elim (some_moment ok dates b calendar g) [
    | inl found ↦
        let next = some_sheet ok dates b order g found.0 (passed (is_group rack g) _ _ fine).0 found.1 in
        (Advanced next.0, (entered b next.0, advances g words things next.0 fine next.1))
    | inr none ↦ (Refused (no_moment rack g), (b, rests g words things fine none))
  ]

  -- a call without a fault has an answer
  some_fine : (b : Book) (call : Call) → about rack b call ≡ None → (answer : Answer) × ((c : Book) × Step rack dates precedes b call answer c)
  some_fine b (Advance g words things) fine = some_advance b g words things fine
  some_fine b (Withdraw i) fine = (Withdrew, (without b i, withdraws i fine))
  some_fine b (AskStanding i) fine = (Stands (standing_of rack dates b i), (b, stands i fine))

  -- every call has an answer
  some_step : (b : Book) (call : Call) → (answer : Answer) × ((c : Book) × Step rack dates precedes b call answer c)
  some_step b call = elim (cases_Option (about rack b call)) [
    | inl fault ↦ (Refused fault.0, (b, declines call fault.0 fault.1))
    | inr fine ↦ some_fine b call fine
  ]

  -- and so have calls one after another
  some_leads : (b : Book) (calls : List Call) → (answers : List Answer) × ((e : Book) × Leads rack dates precedes b calls answers e)
  some_leads b [] = ([], (b, ends b))
  some_leads b (call ∷ calls) =
      let (answer, step) = some_step b call in
      let (c, is) = step in
      let (answers, rest) = some_leads c calls in
      (answer ∷ answers, (rest.0, goes b c rest.0 call answer calls answers is rest.1))

-- they have no others
pub answered : Always OneAnswer
answered plan dates spacings precedes lawful calls =
    let some = some_leads (rack_of-IsRack plan) lawful.calendar lawful.order blank calls in
    record {
      answers = some.0;
      end = some.1.0;
      led = some.1.1;
      only = λ others other led. leads_once (rack_of plan) dates precedes blank calls others some.0 other some.1.0 led some.1.1;
    }
