-- A roster that tells a book knows how its models stand.
use Rattle.std.proofs.Common.{◌≡◌, ℕ, ◌+◌, ◌-◌, ◌*◌, ◌≤◌, Bool, true, false, List, refl, sym, subst, add-mul, mul-le-mul_right, arith, None, Some, Option}
use Rattle.std.specs.Prelude.{if◌then◌else◌, slice_index, is_none, pos, ◌-ℤ◌}
use Rattle.std.specs.Bool.{IsTrue, IsFalse}
use Rattle.std.proofs.lemmas.Bool.{and_from, le-leb}
use Rattle.std.proofs.lemmas.Nat.{mul-le}
use Rattle.refusal.specs.declared.Layer.TheVariants.{Running}
use Rattle.order.specs.Laws.{OrderLaws}
use Rattle.kinds.specs.declared.runs.Run.{Run}
use Rattle.dates.specs.Dates.{CalendarLaws}
use Rattle.plan.specs.declared.pieces.Pieces.{Pieces}
use Rattle.plan.specs.declared.pieces.Pieces.TheVariants.{Whole, Divided}
use Rattle.plan.specs.declared.plans.Plan.{Plan}
use Rattle.plan.specs.Shares.{worker_of, last_of}
use Rattle.set.specs.Heavy.{heavy_count_of}
use Rattle.plan.proofs.Spans.{counts}
use Rattle.calendar.specs.declared.Calendar.{Ghosts as CalendarMeaning}
use Rattle.order.specs.declared.Order.{Ghosts as OrderMeaning}
use Rattle.order.specs.declared.Thing.{Ghosts as ThingMeaning}
use Rattle.standing.specs.declared.Standing.{Standing}
use Rattle.standing.specs.declared.Phase.TheVariants as answer
use Rattle.standing.specs.Standings.{Report, phase_number, reported}
use Rattle.book.specs.Racks.{Rack, rack_of}
use Rattle.book.specs.Books.{Book, is_model_of, group_with, present_of, is_live, date_of, served}
use Rattle.book.specs.Calls.{Step, AskStanding, Stands, stands, about, is_group, quiet, standing_of, about_opening}
use Rattle.book.specs.Laws.{Lawful}
use Rattle.book.proofs.Sums.{latest_le, total_le_all}
use Rattle.book.proofs.Racks.{within_both, rack_of-IsRack}
use Rattle.book.proofs.Kept.{reached_sound}
use Rattle.book.proofs.Lives.{lives}
use Rattle.roster.specs.declared.phase.Phase.TheVariants.{Waiting, Live, Withdrawn}
use Rattle.roster.specs.declared.record.Record.{Record}
use Rattle.roster.specs.declared.Roster.{Roster}
use Rattle.roster.specs.Records.{phase_at, date_in, served_in}
use Rattle.roster.specs.Reports.{report_of}
use Rattle.roster.specs.Telling.{IsBook}
use Rattle.roster.proofs.Groups.{worker_group}
use Rattle.roster.proofs.Phases.{by_phase}
use Rattle.roster.proofs.Keeping.{keeps_so}
use Rattle.roster.specs.Keeping.{IsBookOf, Keeps}

worker_last : (x : Pieces) → worker_of x ≤ last_of x
worker_last (Whole worker size) = omega arith
worker_last (Divided worker first second) = omega arith

parts_between : (t d G : ℕ) → t * G - d * G ≤ (t - d) * G
parts_between t d G = omega (arith, add-mul (t - d) d G, mul-le-mul_right G (let h : t ≤ t - d + d = omega arith in h))

shown_phase : (gone live : Bool) (d x w t : ℕ) → report_of (if gone then Withdrawn else if live then Live d x else Waiting) w t
    ≡ (if gone then quiet answer.Withdrawn else if live then record { phase = phase_number answer.Live; date = d; served = x; lag = pos x -ℤ pos (w * (t - d)) } else quiet answer.Waiting)
shown_phase true live d x w t = refl
shown_phase false true d x w t = refl
shown_phase false false d x w t = refl

pub none_is : {X : Type 0} (o : Option X) → is_none o ≡ true → o ≡ None
none_is None h = refl
none_is (Some x) h = absurd (cc)

-- the laws of a calendar and an order, and that the calendar was checked when the roster was opened
pub lawful_over : {plan : Plan} {dates : ℕ → ℕ → Bool} {spacings : ℕ → ℕ} {precedes : Run → Run → Bool} → CalendarLaws dates spacings → OrderLaws (λ (r : Run). r.model) (λ (r : Run). r.deadline) precedes
    → is_none (about_opening (rack_of plan) spacings) ≡ true → Lawful plan dates spacings precedes
lawful_over calendar order spaced = record { calendar = calendar; order = order; spaced = none_is _ spaced }

module _ {plan : Plan} {dates : ℕ → ℕ → Bool} {precedes : Run → Run → Bool} {presents : List ℕ} {mirrored : List Bool} {records : List Record} (b : Book) (says : IsBook plan dates precedes presents mirrored records b) (i : ℕ) (model : IsTrue (is_model_of (rack_of plan) i)) where
  abbrev rack : Rack
  rack = rack_of plan

  abbrev present : ℕ
  present = slice_index presents (group_with rack i - 1)

  in_group : IsTrue (is_group rack (group_with rack i))
  in_group =
      let w = within_both 1 rack.models i model in
      let fine = (rack_of-IsRack plan).fine i w.0 w.1 in
      worker_group plan (worker_of (rack.pieces i)) fine.from (omega (arith, fine.to, worker_last (rack.pieces i)))

  pub present_told : present ≡ present_of rack b i
  present_told = says.present' (group_with rack i) in_group

  pub begun : date_in (phase_at records (i - 1)) ≤ present
  begun = rw present_told (by_phase (λ p. date_in p ≤ present_of rack b i) b says i model (omega arith) (omega arith) (λ live. latest_le (dates i) (present_of rack b i)))

  pub few : (spacings : ℕ → ℕ) → Lawful plan dates spacings precedes → served_in (phase_at records (i - 1)) ≤ present * rack.grain
  few spacings lawful =
      let sound = reached_sound lawful b says.reached in
      let w = within_both 1 rack.models i model in
      let t = present_of rack b i * rack.grain in
      let d = date_of rack dates b i * rack.grain in
      let got = total_le_all (t - d) 1 _ (λ k l. sound.alone i (d + k) w.0) in
      rw present_told (by_phase (λ p. served_in p ≤ t) b says i model (omega arith) (omega arith) (λ live. omega (arith, got)))

  -- a run got no more parts than there are in its period
  pub small : (spacings : ℕ → ℕ) → Lawful plan dates spacings precedes → served_in (phase_at records (i - 1)) ≤ 100800 * 100800
  small spacings lawful =
      let ok = rack_of-IsRack plan in
      let sound = reached_sound lawful b says.reached in
      let w = within_both 1 rack.models i model in
      let now = present_of rack b i in
      let date = date_of rack dates b i in
      let got = total_le_all (now * rack.grain - date * rack.grain) 1 _ (λ k l. sound.alone i (date * rack.grain + k) w.0) in
      by_phase (λ p. served_in p ≤ 100800 * 100800) b says i model (omega arith) (omega arith) (λ live.
      let l = lives rack dates b i live in
      let fine = ok.fine i w.0 w.1 in
      omega (arith, got, parts_between now date rack.grain, mul-le (now - date) rack.grain 100800 100800 (omega (arith, l.goes, fine.small_period)) ok.small_grain))

  pub shown : (weight : ℕ) → weight ≡ rack.weight i → report_of (phase_at records (i - 1)) weight present ≡ standing_of rack dates b i
  shown weight is = rw (says.phases i model, present_told, is) (shown_phase (b.withdrawn i) (is_live rack dates b i) (date_of rack dates b i) (served rack dates b i) (rack.weight i) (present_of rack b i))

  pub about_fine : about rack b (AskStanding i) ≡ None
  about_fine = rw model refl

pub about_unknown : (rack : Rack) (b : Book) (i : ℕ) → IsFalse (is_model_of rack i) → about rack b (AskStanding i) ≡ Some (record { number = 11; layer = Running; place = i })
about_unknown rack b i none = rw none refl

module _ {C O : Type 0} {calendar : CalendarMeaning C} {order : OrderMeaning O Run} {thing : ThingMeaning Run} where
  pub stood : (x : Roster C O calendar order thing) (i : ℕ) (standing : Standing)
      → ((b : Book) → IsBookOf x b → (about (rack_of x.plan.now) b (AskStanding i) ≡ None) × (reported standing ≡ standing_of (rack_of x.plan.now) (calendar.dates x.calendar.now) b i))
      → Keeps x (AskStanding i) (λ answer. answer ≡ Stands (reported standing)) x
  stood x i standing why = keeps_so refl refl refl (λ b tells. let h = why b tells in record {
    answer = Stands (reported standing);
    after = b;
    step = subst (λ (s : Report). Step (rack_of x.plan.now) (calendar.dates x.calendar.now) (order.precedes x.order.now) b (AskStanding i) (Stands s) b) (sym h.1) (stands i h.0);
    gives' = refl;
    is = tells;
  })
