-- A sheet depends on no date of another group, and on none behind its end.
use Rattle.std.proofs.Common.{◌≡◌, ℕ, ◌+◌, ◌-◌, ◌*◌, ◌<◌, ◌≤◌, Bool, List, [], ◌∷◌, length, inl, inr, refl, ap, sym, ◌∙◌, arith}
use Rattle.std.specs.Bool.{IsTrue, ◌==◌}
use Rattle.std.proofs.lemmas.Bool.{cases_Bool, cases_eq, eqb-true, and_left, and_right, cond-false, false_from_ne_true}
use Rattle.kinds.specs.declared.runs.Run.{Run}
use Rattle.book.specs.Racks.{Rack, whole_on}
use Rattle.book.specs.Sheets.{Row, Sheet}
use Rattle.book.specs.Books.{Book, group_with, present_of, date_of, is_live, left, run_of, is_moment}
use Rattle.book.specs.Turns.{ahead, has, IsRow, AreRows, IsNext}
use Rattle.book.specs.Calls.{Advance, Advanced, Step, advances}
use Rattle.book.specs.Laws.{Always, SameUpToEnd}
use Rattle.book.proofs.Sums.{total_same, latest_le, latest_same, some_of_same}
use Rattle.book.proofs.Racks.{IsRack, rack_of-IsRack}
use Rattle.book.proofs.Given.{has_group}
use Rattle.book.proofs.Pieces.{whole_worker}

-- two calendars that agree on the models of group g, up to its present or a tick ahead of it
module _ {rack : Rack} (ok : IsRack rack) (dates other : ℕ → ℕ → Bool) (precedes : Run → Run → Bool) (b : Book) (g end : ℕ) (later : b.present g ≤ end) (same : (i t : ℕ) → group_with rack i ≡ g → t ≤ end → other i t ≡ dates i t) where
  past_same : (i t : ℕ) → group_with rack i ≡ g → t ≤ present_of rack b i → other i t ≡ dates i t
  past_same i t here l = same i t here (omega (arith, ap b.present here))

  date_same : (i : ℕ) → group_with rack i ≡ g → date_of rack other b i ≡ date_of rack dates b i
  date_same i here = latest_same (dates i) (other i) (present_of rack b i) (λ x l. past_same i x here l)

  live_same : (i : ℕ) → group_with rack i ≡ g → is_live rack other b i ≡ is_live rack dates b i
  live_same i here = rw (date_same i here, past_same i (date_of rack dates b i) here (latest_le (dates i) (present_of rack b i))) refl

  left_same : (i : ℕ) → group_with rack i ≡ g → left rack other b i ≡ left rack dates b i
  left_same i here = rw (date_same i here) refl

  run_same : (i : ℕ) → group_with rack i ≡ g → run_of rack other b i ≡ run_of rack dates b i
  run_same i here = rw (date_same i here) refl

  moment_same : (t : ℕ) → t ≤ end → is_moment rack other b g t ≡ is_moment rack dates b g t
  moment_same t l = some_of_same rack.models _ _ (λ i. elim (cases_Bool (group_with rack i == g)) [
    | inl here ↦ let e = eqb-true (group_with rack i) g here in rw (live_same i e, date_same i e, same i t e l) refl
    | inr none ↦ rw none refl
  ])

  module _ (p : ℕ) (ours : rack.group p ≡ g) where
    whole_ours : (j : ℕ) → IsTrue (whole_on p (rack.pieces j)) → group_with rack j ≡ g
    whole_ours j whole = ap rack.group (whole_worker p (rack.pieces j) whole).0 ∙ ours

    -- the runs that wait for a worker of the group are those of its models
    ahead_same : (i : ℕ) → group_with rack i ≡ g → ahead rack other precedes b p i ≡ ahead rack dates precedes b p i
    ahead_same i here = total_same rack.models _ _ (λ k l. elim (cases_Bool (whole_on p (rack.pieces (k + 1)))) [
      | inl whole ↦ let e = whole_ours (k + 1) whole in rw (run_same i here, run_same (k + 1) e, live_same (k + 1) e, left_same (k + 1) e) refl
      | inr none ↦
          cond-false _ _ _ (and_left _ _ (and_right (is_live rack other b (k + 1)) _ none))
          ∙ sym (cond-false _ _ _ (and_left _ _ (and_right (is_live rack dates b (k + 1)) _ none)))
    ])

    -- models of other groups have none of its workers, by either calendar
    has_same : (D i x : ℕ) → x < rack.grain * D → has rack other precedes b D p i x ≡ has rack dates precedes b D p i x
    has_same D i x l = elim (cases_eq (group_with rack i) g) [
      | inl here ↦ rw (live_same i here, ahead_same i here, left_same i here) refl
      | inr else ↦
          false_from_ne_true _ (λ h. else (sym (has_group ok other precedes b D i p x l h) ∙ ours))
          ∙ sym (false_from_ne_true _ (λ h. else (sym (has_group ok dates precedes b D i p x l h) ∙ ours)))
    ]

    row_same : (D : ℕ) (row : Row) → IsRow rack dates precedes b D p row → IsRow rack other precedes b D p row
    row_same D row r = record { tiles = r.tiles; says = λ i x some l. r.says i x some l ∙ sym (has_same D i x l) }

  rows_same : (D p : ℕ) (rows : List Row) → ((q : ℕ) → p ≤ q → q < p + length rows → rack.group q ≡ g) → AreRows rack dates precedes b D p rows → AreRows rack other precedes b D p rows
  rows_same D p [] ours r = tt
  rows_same D p (row ∷ rows) ours r = (row_same p (ours p (omega arith) (omega arith)) D row r.0, rows_same D (p + 1) rows (λ q l m. ours q (omega arith) (omega arith)) r.1)

-- the next sheet of a group is the same where its own models have the same dates up to the end of it
next_same : {rack : Rack} → IsRack rack → (dates other : ℕ → ℕ → Bool) (precedes : Run → Run → Bool) (b : Book) (g : ℕ) (s : Sheet) → ((i t : ℕ) → group_with rack i ≡ g → t ≤ s.end → other i t ≡ dates i t) → IsNext rack dates precedes b g s → IsNext rack other precedes b g s
next_same {rack} ok dates other precedes b g s same next =
    let later : b.present g ≤ s.end = omega (arith, next.moment.later) in
    let moment = moment_same ok dates other precedes b g s.end later same in
    record {
      group' = next.group';
      start' = next.start';
      moment = record {
        later = next.moment.later;
        date = moment s.end (omega arith) ∙ next.moment.date;
        first = λ t l m. moment t (omega arith) ∙ next.moment.first t l m;
      };
      last = next.last;
      workers = next.workers;
      all = next.all;
      rows' = rows_same ok dates other precedes b g s.end later same (s.end - s.start) s.first s.rows (λ q l m. next.workers.inside q l (omega (arith, next.all))) next.rows';
    }

step_same : {rack : Rack} → IsRack rack → (dates other : ℕ → ℕ → Bool) (precedes : Run → Run → Bool) (b : Book) (g words things : ℕ) (s : Sheet) (c : Book) → Step rack dates precedes b (Advance g words things) (Advanced s) c → ((i t : ℕ) → group_with rack i ≡ g → t ≤ s.end → other i t ≡ dates i t) → Step rack other precedes b (Advance g words things) (Advanced s) c
step_same ok dates other precedes b _ _ _ _ _ (advances g words things s none next) same = advances g words things s none (next_same ok dates other precedes b g s same next)

pub same_up_to_end : Always SameUpToEnd
same_up_to_end plan dates spacings precedes lawful other b c g words things s step long same = step_same (rack_of-IsRack plan) dates other precedes b g words things s c step same
