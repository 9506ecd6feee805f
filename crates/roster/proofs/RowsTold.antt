-- The row that is built from the records is the row of any book that they tell.
use Rattle.std.proofs.Common.{◌≡◌, ℕ, zero, suc, ◌+◌, ◌-◌, ◌^◌, ◌<◌, ◌≤◌, Bool, true, false, not, ◌&&◌, List, [], ◌∷◌, ◌++◌, length, inl, inr, refl, sym, subst, ap, ◌∙◌, arith}
use Rattle.std.specs.Prelude.{if◌then◌else◌}
use Rattle.std.specs.Bool.{IsTrue}
use Rattle.std.specs.List.Sorted.{IsPermutation}
use Rattle.std.proofs.lemmas.List.{length_push}
use Rattle.std.proofs.lemmas.Bool.{cases_Bool, and_parts, and_from, le-leb}
use Rattle.kinds.specs.declared.runs.Run.{Run}
use Rattle.plan.specs.declared.plans.Plan.{Plan}
use Rattle.set.specs.Heavy.{heavy_count_of}
use Rattle.plan.proofs.Spans.{counts}
use Rattle.book.specs.Racks.{Rack, rack_of, whole_on}
use Rattle.book.specs.Sheets.{Row, Says as SaysRow}
use Rattle.book.specs.Books.{Book, is_model_of, is_live, date_of, served, run_of}
use Rattle.book.specs.Turns.{head, tail, takes_turns, has, IsRow, AreRows}
use Rattle.book.specs.Calls.{is_group}
use Rattle.book.specs.Laws.{Lawful}
use Rattle.book.proofs.Racks.{rack_of-IsRack}
use Rattle.book.proofs.Lives.{lives}
use Rattle.book.proofs.Rows.{spans_in}
use Rattle.book.proofs.Fits.{spans_few}
use Rattle.roster.specs.declared.sheet.ends.Ends.{Ends}
use Rattle.roster.specs.Waiting.{runs_of}
use Rattle.roster.specs.Dividing.{IsAtEnd, AreEnds, Divides}
use Rattle.roster.proofs.Dividing.{divides}
use Rattle.roster.proofs.Phases.{by_phase}
use Rattle.roster.specs.declared.phase.Phase.{Phase}
use Rattle.roster.specs.declared.phase.Phase.TheVariants.{Waiting, Live, Withdrawn}
use Rattle.roster.specs.declared.record.Record.{Record}
use Rattle.roster.specs.Records.{phase_at, date_in, served_in}
use Rattle.roster.specs.Telling.{IsBook}
use Rattle.roster.specs.Filling.{is_live_in, has_run, waits_on, run_in, EndsOf}

-- no date is so late that a deadline would not fit its field
abbrev Early : Plan → List Record → Type 0
Early plan records = (i : ℕ) → IsTrue (is_model_of (rack_of plan) i) → date_in (phase_at records (i - 1)) < 2 ^ 30

not_true : (gone : Bool) → IsTrue (not gone) → gone ≡ false
not_true true h = absurd (cc)
not_true false h = refl

live_phase : (gone live : Bool) (d x : ℕ) → (live ≡ true → gone ≡ false) → is_live_in (if gone then Withdrawn else if live then Live d x else Waiting) ≡ live
live_phase true true d x kept = absurd (let e = kept refl in cc)
live_phase true false d x kept = refl
live_phase false true d x kept = refl
live_phase false false d x kept = refl

live_is : (gone live : Bool) (d x : ℕ) → live ≡ true → gone ≡ false → (if gone then Withdrawn else if live then Live d x else Waiting) ≡ Live d x
live_is gone live d x is kept = rw (is, kept) refl

-- two tests are the same for a model's number, and the second fails for all others
with_model : (model a c : Bool) → (model ≡ true → a ≡ c) → (c ≡ true → model ≡ true) → (model && a) ≡ c
with_model true a c same only = same refl
with_model false a true same only = absurd (let e = only refl in cc)
with_model false a false same only = refl

-- runs of the same models are the same
runs_same : (takes takes' : ℕ → Bool) (run run' : ℕ → Run) → ((i : ℕ) → takes i ≡ takes' i) → ((i : ℕ) → IsTrue (takes' i) → run i ≡ run' i) → (n : ℕ) → runs_of takes run n ≡ runs_of takes' run' n
runs_same takes takes' run run' same each zero = refl
runs_same takes takes' run run' same each (suc n) = elim (cases_Bool (takes' (n + 1))) [
  | inl is ↦ rw (same (n + 1), is, each (n + 1) is, runs_same takes takes' run run' same each n) refl
  | inr off ↦ rw (same (n + 1), off) (runs_same takes takes' run run' same each n)
]

end_same : (live live' : ℕ → Bool) (size : ℕ → ℕ) (m : ℕ) → ((i : ℕ) → live i ≡ live' i) → IsAtEnd live size m → IsAtEnd live' size m
end_same live live' size m same is = record {
  stands = λ l. let s = is.stands l in (sym (same m) ∙ s.0, s.1);
  only = λ i h some. is.only i (same i ∙ h) some;
}

module _ {plan : Plan} {dates : ℕ → ℕ → Bool} {precedes : Run → Run → Bool} {presents : List ℕ} {mirrored : List Bool} {records : List Record} (b : Book) (says : IsBook plan dates precedes presents mirrored records b) where
  abbrev rack : Rack
  rack = rack_of plan

  kept : (i : ℕ) → IsTrue (is_live rack dates b i) → b.withdrawn i ≡ false
  kept i live = not_true (b.withdrawn i) (and_parts _ _ (and_parts _ _ live).0).1

  -- a model has a run by the records just where it has one by the book
  has_run_is : (i : ℕ) → has_run plan records i ≡ is_live rack dates b i
  has_run_is i = with_model (is_model_of rack i) (is_live_in (phase_at records (i - 1))) (is_live rack dates b i)
      (λ model. ap is_live_in (says.phases i model) ∙ live_phase (b.withdrawn i) (is_live rack dates b i) (date_of rack dates b i) (served rack dates b i) (kept i))
      (λ live. (and_parts _ _ (and_parts _ _ live).0).0)

  phase_is : (i : ℕ) → IsTrue (is_live rack dates b i) → phase_at records (i - 1) ≡ Live (date_of rack dates b i) (served rack dates b i)
  phase_is i live = says.phases i (and_parts _ _ (and_parts _ _ live).0).0 ∙ live_is (b.withdrawn i) (is_live rack dates b i) (date_of rack dates b i) (served rack dates b i) live (kept i live)

  run_is : (i : ℕ) → IsTrue (is_live rack dates b i) → run_in plan records i ≡ run_of rack dates b i
  run_is i live = ap (λ (p : Phase). record { model = i; deadline = date_in p + rack.period i; remaining = rack.parts i - served_in p }) (phase_is i live)

  waits_is : (p i : ℕ) → waits_on plan records p i ≡ takes_turns rack dates b p i
  waits_is p i = ap (λ (live : Bool). live && whole_on p (rack.pieces i)) (has_run_is i)

  waiting_is : (p n : ℕ) → runs_of (waits_on plan records p) (run_in plan records) n ≡ runs_of (takes_turns rack dates b p) (run_of rack dates b) n
  waiting_is p n = runs_same (waits_on plan records p) (takes_turns rack dates b p) (run_in plan records) (run_of rack dates b) (waits_is p) (λ i is. run_is i (and_parts _ _ is).0) n

  ends_are : (p D : ℕ) (ends : Ends) → EndsOf plan records (b.mirrored (rack.group p)) p D ends → AreEnds (is_live rack dates b) (head rack b p) (tail rack b p) rack.models rack.grain D ends
  ends_are p D ends are = record {
    head' = end_same (has_run plan records) (is_live rack dates b) (head rack b p) ends.head has_run_is are.head';
    opens' = are.opens';
    closes' = are.closes';
    tail' = end_same (has_run plan records) (is_live rack dates b) (tail rack b p) ends.tail has_run_is are.tail';
    long' = are.long';
  }

  pub row_told : {spacings : ℕ → ℕ} → Lawful plan dates spacings precedes → (p D : ℕ) → 1 ≤ p → p ≤ rack.workers → (ends : Ends) → EndsOf plan records (b.mirrored (rack.group p)) p D ends
      → (things : List Run) → IsPermutation (runs_of (waits_on plan records p) (run_in plan records) rack.models) things
      → (row : Row) → ((h : ℕ → ℕ → Bool) → Divides precedes things ends h → SaysRow ends.long h row) → IsRow rack dates precedes b D p row
  row_told lawful p D some last ends are things same row says_row =
      let ends' = ends_are p D ends are in
      let waiting = subst (λ (l : List Run). IsPermutation l things) (waiting_is p rack.models) same in
      subst (λ n. SaysRow n (has rack dates precedes b D p) row) ends'.long' (says_row (has rack dates precedes b D p) (divides (rack_of-IsRack plan) dates b precedes lawful.order D p some last things waiting ends ends'))

  pub early : {spacings : ℕ → ℕ} → Lawful plan dates spacings precedes → Early plan records
  early lawful i model = by_phase (λ p. date_in p < 2 ^ 30) b says i model (omega arith) (omega arith) (λ live. lawful.calendar.early i (date_of rack dates b i) (lives rack dates b i live).date)

-- a row more
pub rows_more : (rack : Rack) (dates : ℕ → ℕ → Bool) (precedes : Run → Run → Bool) (b : Book) (D p q : ℕ) (rows : List Row) (row : Row) → AreRows rack dates precedes b D p rows → q ≡ p + length rows → IsRow rack dates precedes b D q row → AreRows rack dates precedes b D p (rows ++ row ∷ [])
rows_more rack dates precedes b D p q [] row are e is = (let same : q ≡ p = omega arith in subst (λ k. IsRow rack dates precedes b D k row) same is, tt)
rows_more rack dates precedes b D p q (first ∷ rows) row are e is = (are.0, rows_more rack dates precedes b D (p + 1) q rows row are.1 (omega arith) is)

spans_more : (rows : List Row) (row : Row) → spans_in (rows ++ row ∷ []) ≡ spans_in rows + length row
spans_more [] row = omega arith
spans_more (first ∷ rows) row = let e = spans_more rows row in omega arith

-- there is room for the spans of a row more
pub room_more : {plan : Plan} {dates : ℕ → ℕ → Bool} {spacings : ℕ → ℕ} {precedes : Run → Run → Bool} → Lawful plan dates spacings precedes → (b : Book) (D p q : ℕ) (rows : List Row) (row : Row)
    → AreRows (rack_of plan) dates precedes b D p rows → q ≡ p + length rows → IsRow (rack_of plan) dates precedes b D q row → length rows < 32 → spans_in rows + length row ≤ 127
room_more {plan} {dates} {spacings} {precedes} lawful b D p q rows row are e is few =
    omega (arith, spans_few (rack_of-IsRack plan) dates b precedes lawful.order D p (rows ++ row ∷ []) (rows_more (rack_of plan) dates precedes b D p q rows row are e is), spans_more rows row, length_push rows row)
