-- What a caller knows that made call after call.
use Rattle.std.proofs.Common.{replicate, ◌≡◌, ◌≢◌, ℕ, ◌+◌, ◌-◌, ◌*◌, Bool, List, [], ◌∷◌, ◌++◌, append-nil, refl, sym, ap, ◌∙◌, subst, arith}
use Rattle.std.specs.Bool.{◌==◌}
use Rattle.std.proofs.lemmas.Bool.{ne_eqb, cond-false}
use Rattle.kinds.specs.declared.runs.Run.{Run}
use Rattle.plan.specs.declared.plans.Plan.{Plan}
use Rattle.book.specs.Racks.{Rack, rack_of}
use Rattle.book.specs.Sheets.{Sheet}
use Rattle.book.specs.Books.{Book, blank, group_with}
use Rattle.book.specs.Calls.{Advance, Withdraw, Answer as Given, Advanced, Withdrew, Step, declines, advances, rests, withdraws, Leads, ends, goes}
use Rattle.book.specs.Laws.{Lawful, Reached, Remains, HasRun, Passes}
use Rattle.book.proofs.Exists.{answered}
use Rattle.book.proofs.Keeps.{reached_more}
use Rattle.book.proofs.Kept.{fair_shares, one_worker, whole_runs}
use Rattle.book.proofs.Only.{none_withdrawn}
use Rattle.book.proofs.Due.{ends_due, goes_on}
use Rattle.season.specs.declared.call.Call.TheVariants as call
use Rattle.season.specs.declared.answer.Answer.TheVariants as answer
use Rattle.season.specs.Asking.{IsAnswer, advanced, withdrew}
use Rattle.season.proofs.Reading.{held_one, held_advance}
use Rattle.callers.specs.declared.Interval.{Interval}
use Rattle.callers.specs.declared.Kept.{Kept}
use Rattle.callers.specs.Knowing.{sheet_of, sheets_of, IsKept, AreKept, calls_of, Begins, Knows}

-- an interval that ends at a tick has a sheet that does
ends_with : {start t first written : ℕ} (given : Given) → IsAnswer (answer.Advanced start t first written) given → (s : Sheet) × ((given ≡ Advanced s) × (s.end ≡ t))
ends_with _ (advanced _ _ _ _ s is) = (s, (refl, sym (ap (λ (n : ℕ × ℕ × ℕ × ℕ). n.1) is)))

was_withdrawn : (given : Given) → IsAnswer answer.Withdrew given → given ≡ Withdrew
was_withdrawn _ withdrew = refl

module _ {rack : Rack} {dates : ℕ → ℕ → Bool} {precedes : Run → Run → Bool} where
  -- a withdrawal moves no group, and withdraws no other model; an advance withdraws none
  no_move : {b : Book} {j : ℕ} {c : Book} {given : Given} → Step rack dates precedes b (Withdraw j) given c → (g : ℕ) → c.present g ≡ b.present g
  no_move (declines _ _ why) g = refl
  no_move (withdraws _ fine) g = refl

  no_other : {b : Book} {j : ℕ} {c : Book} {given : Given} → Step rack dates precedes b (Withdraw j) given c → (i : ℕ) → i ≢ j → c.withdrawn i ≡ b.withdrawn i
  no_other (declines _ _ why) i other = refl
  no_other {b} {j = j} (withdraws _ fine) i other = cond-false (i == j) _ (b.withdrawn i) (ne_eqb i j other)

  none_out : {b : Book} {g words things : ℕ} {c : Book} {given : Given} → Step rack dates precedes b (Advance g words things) given c → (i : ℕ) → c.withdrawn i ≡ b.withdrawn i
  none_out (declines _ _ why) i = refl
  none_out (advances _ _ _ s fine next) i = refl
  none_out (rests _ _ _ fine last) i = refl

-- four calls from the blank book on, and what is kept of them
pub record Steps (plan : Plan) (dates : ℕ → ℕ → Bool) (precedes : Run → Run → Bool) (before after : ℕ) (kept : Kept) : Type 0 where
  pub one : Book
  pub two : Book
  pub three : Book
  pub end : Book
  pub answers : Given × Given × Given × Given
  pub first_step : Step (rack_of plan) dates precedes blank (Withdraw before) answers.0 one
  pub second_step : Step (rack_of plan) dates precedes one (Advance 1 512 64) answers.1 two
  pub third_step : Step (rack_of plan) dates precedes two (Advance 1 512 64) answers.2 three
  pub last_step : Step (rack_of plan) dates precedes three (Withdraw after) answers.3 end
  pub withdrawal' : IsAnswer kept.withdrawal answers.0
  pub first' : IsKept kept.first answers.1
  pub second' : IsKept kept.second answers.2
  pub last_withdrawal' : IsAnswer kept.last_withdrawal answers.3

module _ {plan : Plan} {dates : ℕ → ℕ → Bool} {spacings : ℕ → ℕ} {precedes : Run → Run → Bool} (lawful : Lawful plan dates spacings precedes) {before after : ℕ} {kept : Kept} (p : Steps plan dates precedes before after kept) where
  abbrev rack : Rack
  rack = rack_of plan

  from_blank : Reached plan dates precedes blank
  from_blank = record { calls = []; answers = []; led = ends blank }

  to_one : Reached plan dates precedes p.one
  to_one = reached_more from_blank p.first_step

  to_two : Reached plan dates precedes p.two
  to_two = reached_more to_one p.second_step

  to_three : Reached plan dates precedes p.three
  to_three = reached_more to_two p.third_step

  last_on : Leads rack dates precedes p.three (Withdraw after ∷ []) (p.answers.3 ∷ []) p.end
  last_on = goes p.three p.end p.end (Withdraw after) p.answers.3 [] [] p.last_step (ends p.end)

  two_on : Leads rack dates precedes p.two (Advance 1 512 64 ∷ Withdraw after ∷ []) (p.answers.2 ∷ p.answers.3 ∷ []) p.end
  two_on = goes p.two p.three p.end (Advance 1 512 64) p.answers.2 _ _ p.third_step last_on

  one_on : Leads rack dates precedes p.one (Advance 1 512 64 ∷ Advance 1 512 64 ∷ Withdraw after ∷ []) (p.answers.1 ∷ p.answers.2 ∷ p.answers.3 ∷ []) p.end
  one_on = goes p.one p.two p.end (Advance 1 512 64) p.answers.1 _ _ p.second_step two_on

  -- an advance adds the sheet that is kept of it
  added : (b c : Book) (given : Given) (interval : Interval) → Step rack dates precedes b (Advance 1 512 64) given c → IsKept interval given → c.sheets ≡ b.sheets ++ sheet_of interval
  added b c given interval step is = rw is.words' (held_advance b 1 512 64 given c interval.answer (replicate 512 0) step is.says)

  no_sheet : p.one.sheets ≡ []
  no_sheet = held_one blank (call.Withdraw before) [] [] p.answers.0 p.one kept.withdrawal [] p.first_step p.withdrawal'

  same : p.end.sheets ≡ sheets_of kept
  same =
      held_one p.three (call.Withdraw after) [] [] p.answers.3 p.end kept.last_withdrawal [] p.last_step p.last_withdrawal' ∙ append-nil p.three.sheets
      ∙ added p.two p.three p.answers.2 kept.second p.third_step p.second'
      ∙ ap (λ (ss : List Sheet). ss ++ sheet_of kept.second) (added p.one p.two p.answers.1 kept.first p.second_step p.first' ∙ ap (λ (ss : List Sheet). ss ++ sheet_of kept.first) no_sheet)

  stays : (i : ℕ) → Begins plan dates before i → Remains plan dates precedes p.one i
  stays i b = record { from_one = b.model.first; to_last = b.model.last; kept = no_other p.first_step i b.other }

  still_stays : (i : ℕ) → Begins plan dates before i → Remains plan dates precedes p.three i
  still_stays i b = record { from_one = b.model.first; to_last = b.model.last; kept = none_out p.third_step i ∙ none_out p.second_step i ∙ no_other p.first_step i b.other }

  passes : (b c : Book) (s : Sheet) → Reached plan dates precedes b → Step rack dates precedes b (Advance 1 512 64) (Advanced s) c → Passes plan dates precedes b c 1 s
  passes b c s reached step = (ends_due plan dates spacings precedes lawful b reached 1).0 c 512 64 s step (goes_on plan dates spacings precedes lawful b c reached 1 512 64 s step)

  pub knows : Knows plan dates precedes before after kept
  knows = record {
    told = λ answers end led.
        let law = answered plan dates spacings precedes lawful (calls_of before after) in
        let here = law.only _ p.end (goes blank p.one p.end (Withdraw before) p.answers.0 _ _ p.first_step one_on) in
        subst (AreKept kept) (here.0 ∙ sym (law.only answers end led).0) (p.withdrawal', p.first', p.second', p.last_withdrawal');
    shared = λ t (start, first, written, is) i b divided.
        let (s, (is_s, at_t)) = ends_with p.answers.1 (rw is at p.first'.says) in
        let step = rw is_s at p.second_step in
        let begins : s.start ≡ 0 = (passes p.one p.two s to_one step).from ∙ no_move p.first_step 1 in
        let some_period = (plan.set.timed (i - 1) (omega (arith, b.model.first, b.model.last))).0 in
        let run : HasRun plan dates precedes p.one i 0 = record { remains = stays i b; date = b.date; begun = omega arith; goes = omega (arith, no_move p.first_step (group_with rack i), some_period) } in
        let share = fair_shares plan dates spacings precedes lawful p.one p.two p.end to_one 1 512 64 s step _ _ two_on i 0 b.here divided run in
        let none : 0 * rack.grain ≡ 0 = omega arith in
        let all : t - 0 ≡ t = omega arith in
        rw (same, begins, at_t, none, all) at share;
    whole = λ t (start, first, written, is) i b over.
        let (s, (is_s, at_t)) = ends_with p.answers.2 (rw is at p.second'.says) in
        let now : p.three.present (group_with rack i) ≡ t = rw b.here ((passes p.two p.three s to_two (rw is_s at p.third_step)).to ∙ at_t) in
        let run = whole_runs plan dates spacings precedes lawful p.three p.end to_three _ _ last_on i 0 (still_stays i b) b.date (omega (arith, now, over)) in
        let none : 0 * rack.grain ≡ 0 = omega arith in
        let due : 0 + rack.period i ≡ rack.period i = omega arith in
        rw (same, none, due) at run;
    apart = λ i x model. rw same at (one_worker plan dates spacings precedes lawful p.end (reached_more to_three p.last_step) i x model);
    out = λ is x.
        let step = rw (was_withdrawn p.answers.0 (rw is at p.withdrawal')) at p.first_step in
        rw same at (none_withdrawn plan dates spacings precedes lawful blank p.one p.end from_blank before step _ _ one_on x (omega arith));
  }
