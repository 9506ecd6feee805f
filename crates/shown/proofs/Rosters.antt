-- A roster over a rack that is written out: that it can be opened, and what its next sheet is.
use Rattle.std.proofs.Common.{◌≡◌, ℕ, ◌+◌, ◌-◌, ◌<◌, ◌≤◌, Bool, ◌&&◌, true, List, ◌∷◌, length, None, sym, subst, ap, ◌∙◌, arith}
use Rattle.std.proofs.lemmas.Bool.{agree_below, agree_below_at, and_parts, ne_eqb}
use Rattle.std.specs.Bool.{◌==◌, nat_le}
use Rattle.std.proofs.lemmas.Bool.Decides.{nat_tests}
use Rattle.set.specs.Limits.{within}
use Rattle.order.specs.Laws.{OrderLaws}
use Rattle.kinds.specs.declared.runs.Run.{Run}
use Rattle.plan.specs.declared.plans.Plan.{Plan}
use Rattle.plan.specs.Groups.{Group}
use Rattle.dates.specs.declared.phase.Phase.{Phase}
use Rattle.dates.specs.Phases.{phase_dates, phase_spacings}
use Rattle.dates.proofs.Phases.{phase-CalendarLaws}
use Rattle.book.specs.Racks.{Rack, rack_of}
use Rattle.book.specs.Sheets.{Sheet}
use Rattle.book.specs.Books.{Book, blank, is_moment}
use Rattle.book.specs.Turns.{IsNext}
use Rattle.book.specs.Calls.{Call, Answer, Step, Leads, goes, about_opening}
use Rattle.book.specs.Laws.{Lawful}
use Rattle.shown.specs.Further.{Plays}
use Rattle.shown.proofs.Rows.{all_rows, are_rows}

eq_self : (z : ℕ) → (z == z) ≡ true
eq_self z = grind (arith, nat_tests)

-- of m workers those from first to last are in group g, and no others
module _ (group : ℕ → ℕ) (m g first last : ℕ) where
  abbrev are_those : Bool
  are_those = agree_below (λ k. group (k + 1) == g) (λ k. within first last (k + 1)) m

  abbrev pub are_group : Bool
  are_group = within 1 last first && (nat_le last m && are_those)

  those : (p : ℕ) → are_group ≡ true → 1 ≤ p → p ≤ m → (group p == g) ≡ within first last p
  those p h l u =
      let same : are_those ≡ true = (and_parts (nat_le last m) are_those (and_parts (within 1 last first) (nat_le last m && are_those) h).1).1 in
      let back : p - 1 + 1 ≡ p = omega arith in
      subst (λ k. (group k == g) ≡ within first last k) back (agree_below_at (λ k. group (k + 1) == g) (λ k. within first last (k + 1)) m (p - 1) same (omega arith))

  is_group : are_group ≡ true → Group group m g first last
  is_group h = record { from_one = from_one; some = grind (arith, nat_tests); within = to_last; inside = inside; only = only }
    where
      from_one : 1 ≤ first
      from_one = grind (arith, nat_tests)

      to_last : last ≤ m
      to_last = grind (arith, nat_tests)

      inside : (p : ℕ) → first ≤ p → p ≤ last → group p ≡ g
      inside p l u = let there = those p h (omega (arith, from_one)) (omega (arith, to_last)) in grind (arith, nat_tests)

      only : (p : ℕ) → 1 ≤ p → p ≤ m → group p ≡ g → (first ≤ p) × (p ≤ last)
      only p l u e = let there = those p h l u in (grind (arith, nat_tests), grind (arith, nat_tests))

module _ (rack : Rack) (phases : List Phase) (precedes : Run → Run → Bool) (laws : OrderLaws (λ (r : Run). r.model) (λ (r : Run). r.deadline) precedes) (spaced : about_opening rack (phase_spacings phases) ≡ None) where
  -- a roster can be opened over a plan that has this rack, with such phases
  pub opens : (plan : Plan) → rack_of plan ≡ rack → Lawful plan (phase_dates phases) (phase_spacings phases) precedes
  opens plan is = record {
    calendar = phase-CalendarLaws phases;
    order = laws;
    spaced = ap (λ r. about_opening r (phase_spacings phases)) is ∙ spaced;
  }

  -- and it answers as one over the rack does
  pub plays : {calls : List Call} {answers : List Answer} {end : Book} → Leads rack (phase_dates phases) precedes blank calls answers end → (plan : Plan) → rack_of plan ≡ rack → Plays plan phases precedes calls answers
  plays {calls} {answers} {end} leads plan is = record {
    opens = opens plan is;
    end = end;
    led = subst (λ r. Leads r (phase_dates phases) precedes blank calls answers end) (sym is) leads;
  }

module _ (rack : Rack) (dates : ℕ → ℕ → Bool) (b : Book) (g : ℕ) where
  abbrev has_moment : ℕ → Bool
  has_moment = is_moment rack dates b g

  abbrev start : ℕ
  start = b.present g + 1

  -- after its present the group has a moment at z, and none before z
  abbrev turns_at : ℕ → Bool
  turns_at z = agree_below (λ k. has_moment (start + k)) (λ k. start + k == z) (z - b.present g)

  is_the_moment : (t z : ℕ) → turns_at z ≡ true → start ≤ t → t ≤ z → has_moment t ≡ (t == z)
  is_the_moment t z h l m =
      let at = agree_below_at (λ k. has_moment (start + k)) (λ k. start + k == z) (z - b.present g) (t - start) h (omega arith) in
      let back : start + (t - start) ≡ t = omega arith in
      subst (λ k. has_moment k ≡ (k == z)) back at

module _ {rack : Rack} {dates : ℕ → ℕ → Bool} {precedes : Run → Run → Bool} where
  -- the next sheet of a group
  pub is_next : {b : Book} {g : ℕ} {s : Sheet} → s.group ≡ g → s.start ≡ b.present g → s.start < s.end → turns_at rack dates b g s.end ≡ true → are_group rack.group rack.workers g s.first (s.first + length s.rows - 1) ≡ true → all_rows rack dates precedes b (s.end - s.start) s.first s.rows ≡ true → IsNext rack dates precedes b g s
  is_next {b} {g} {s} group' start' later h all rows =
      let workers = is_group rack.group rack.workers g s.first (s.first + length s.rows - 1) all in
      record {
        group' = group';
        start' = start';
        moment = record {
          later = omega arith;
          date = is_the_moment rack dates b g s.end s.end h (omega arith) (omega arith) ∙ eq_self s.end;
          first = λ t l m. is_the_moment rack dates b g t s.end h l (omega arith) ∙ ne_eqb t s.end (omega arith);
        };
        last = s.first + length s.rows - 1;
        workers = workers;
        all = omega (arith, workers.from_one);
        rows' = are_rows rack dates precedes b (s.end - s.start) s.first s.rows rows;
      }

  -- a call, and whatever comes after it
  pub also : {b c e : Book} {call : Call} {answer : Answer} {calls : List Call} {answers : List Answer} → Step rack dates precedes b call answer c → Leads rack dates precedes c calls answers e → Leads rack dates precedes b (call ∷ calls) (answer ∷ answers) e
  also step rest = goes _ _ _ _ _ _ _ step rest
