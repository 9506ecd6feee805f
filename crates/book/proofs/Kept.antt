-- The laws are kept by every list of calls.
use Rattle.std.proofs.Common.{◌≡◌, ℕ, ◌+◌, ◌-◌, ◌*◌, ◌≤◌, Bool, not, pos, ◌-ℤ◌, List, inl, inr, refl, ap, sym, ◌∙◌, subst, mul-le-mul_right, arith}
use Rattle.std.specs.Bool.{IsTrue}
use Rattle.std.proofs.lemmas.Bool.{cases_eq, leb-true, le-leb, and_from, cond-true, cond-false}
use Rattle.std.proofs.lemmas.Int.{ints}
use Rattle.refusal.proofs.Firsts.{none_below, passed}
use Rattle.kinds.specs.declared.runs.Run.{Run}
use Rattle.plan.specs.declared.plans.Plan.{Plan}
use Rattle.standing.specs.Standings.{Report}
use Rattle.book.specs.Racks.{Rack, rack_of, is_divided}
use Rattle.book.specs.Sheets.{Sheet, workers_with, got}
use Rattle.book.specs.Books.{Book, entered, is_model_of, group_with, present_of, in_use, date_of, is_live}
use Rattle.book.specs.Calls.{Call, Advance, AskStanding, Answer, Advanced, Stands, Step, advances, stands, Leads}
use Rattle.book.specs.Turns.{IsNext}
use Rattle.book.specs.Laws.{Lawful, Always, Reached, Remains, HasRun, FitsWords, FitsFields, FairShares, OneWorker, WholeRuns, Tells, StandingsTell, SheetsFit, StandingsFit}
use Rattle.book.proofs.Sums.{between_none}
use Rattle.book.proofs.Racks.{IsRack, rack_of-IsRack}
use Rattle.book.proofs.Holders.{model_bounds, live_model}
use Rattle.book.proofs.Keeps.{calls_keep}
use Rattle.book.proofs.Exists.{moment_early}
use Rattle.book.proofs.Given.{rows_give_divided}
use Rattle.book.proofs.Lives.{KeepsApart, used_model, live_from}
use Rattle.book.proofs.Entered.{D, rises, present_here, present_elsewhere, got_elsewhere, got_before, got_through}
use Rattle.book.proofs.Fits.{sheet_fits, standing_fits}
use Rattle.book.proofs.Sound.{Sound, sound_blank, sound_without}
use Rattle.book.proofs.Service.{sound_entered}

level : (a c : ℕ) → a ≡ c → pos a -ℤ pos c ≡ pos 0
level a c e = omega (arith, ints)

module _ {plan : Plan} {dates : ℕ → ℕ → Bool} {spacings : ℕ → ℕ} {precedes : Run → Run → Bool} (lawful : Lawful plan dates spacings precedes) where
  abbrev rack : Rack
  rack = rack_of plan

  abbrev pub ok : IsRack rack
  ok = rack_of-IsRack plan

  spacing_enough : (i : ℕ) → IsTrue (is_model_of rack i) → rack.period i ≤ spacings i
  spacing_enough i m =
      let bounds = model_bounds ok i m in
      let e : i - 1 + 1 ≡ i = omega arith in
      let none = none_below _ rack.models (i - 1) (omega arith) lawful.spaced in
      subst (λ j. rack.period j ≤ spacings j) e (leb-true _ _ (passed _ _ _ none).0)

  pub apart : KeepsApart rack dates
  apart = record { period_apart = λ i d e m l x y. omega (arith, lawful.calendar.apart i d e l x y, spacing_enough i m) }

  pub reached_sound : (b : Book) → Reached plan dates precedes b → Sound rack dates b
  reached_sound b r = calls_keep (Sound rack dates) (λ b g s next. sound_entered ok apart lawful.order b g s next) (λ b i. sound_without ok apart b i) r.led (sound_blank ok apart)

  pub used_of : (b : Book) (i : ℕ) → Remains plan dates precedes b i → IsTrue (in_use rack b i)
  used_of b i remains = and_from _ _ (and_from _ _ (le-leb _ _ remains.from_one) (le-leb _ _ remains.to_last)) (ap not remains.kept)

  -- a model that has a run is live, with the run's date
  pub run_live : (b : Book) (i d : ℕ) → HasRun plan dates precedes b i d → IsTrue (is_live rack dates b i) × (date_of rack dates b i ≡ d)
  run_live b i d run = live_from apart b i d (used_of b i run.remains) run.date run.begun run.goes

  -- what a model got up to a part that is over stays, whatever is called
  module _ (i u v : ℕ) (m : IsTrue (is_model_of rack i)) (b : Book) where
    record GotSame (c : Book) : Type 0 where
      same : got rack.grain c.sheets i u v ≡ got rack.grain b.sheets i u v
      over : v ≤ present_of rack c i * rack.grain

    got_same : (c : Book) (g : ℕ) (s : Sheet) → IsNext rack dates precedes c g s → GotSame c → GotSame (entered c s)
    got_same c g s next held = elim (cases_eq (group_with rack i) g) [
      | inl here ↦
          let now : present_of rack c i ≡ s.start = ap c.present here ∙ sym next.start' in
          let later : present_of rack c i ≤ present_of rack (entered c s) i = omega (arith, now, present_here ok dates precedes c g s next i here, rises ok dates precedes c g s next) in
          record { same = got_before ok dates precedes c g s next i u v (rw now at held.over) ∙ held.same; over = omega (arith, held.over, mul-le-mul_right rack.grain later) }
      | inr other ↦ record {
        same = got_elsewhere ok dates precedes c g s next i u v (model_bounds ok i m).0 other ∙ held.same;
        over = rw (present_elsewhere ok dates precedes c g s next i other) held.over;
      }
    ]

    got_stays : (calls : List Call) (answers : List Answer) (e : Book) → Leads rack dates precedes b calls answers e → v ≤ present_of rack b i * rack.grain → got rack.grain e.sheets i u v ≡ got rack.grain b.sheets i u v
    got_stays calls answers e led past = (calls_keep GotSame got_same (λ c j held. record { same = held.same; over = held.over }) led (record { same = refl; over = past })).same

  share : (b : Book) (g words things : ℕ) (s : Sheet) (c : Book) → Sound rack dates b → Step rack dates precedes b (Advance g words things) (Advanced s) c → (i : ℕ) → group_with rack i ≡ g → IsTrue (is_divided (rack.pieces i)) → IsTrue (is_live rack dates b i)
      → (got rack.grain c.sheets i (s.start * rack.grain) (s.end * rack.grain) ≡ rack.weight i * (s.end - s.start)) × (present_of rack c i ≡ s.end)
  share b _ _ _ _ _ sound (advances g words things s none next) i here d alive =
      let some = (model_bounds ok i (live_model ok dates b i alive)).0 in
      let now : s.start ≡ present_of rack b i = next.start' ∙ ap b.present (sym here) in
      let empty = between_none (s.start * rack.grain) (present_of rack b i * rack.grain) (workers_with rack.grain b.sheets i) (λ x l m. absurd (omega (arith, ap (λ t. t * rack.grain) now))) in (
        omega (
          arith,
          got_through ok dates precedes b g s next i (s.start * rack.grain) some here (omega arith) (λ y. sound.past i y some),
          empty,
          rows_give_divided ok dates precedes b (D ok dates precedes b g s next) s.rows s.first next.rows' g next.last next.workers next.all i alive d here,
        ),
        present_here ok dates precedes b g s next i here,
      )

  sheet_fit : (b : Book) (g words things : ℕ) (s : Sheet) (c : Book) → Step rack dates precedes b (Advance g words things) (Advanced s) c → FitsWords s
  sheet_fit b _ _ _ _ _ (advances g words things s none next) = sheet_fits ok dates precedes lawful.order b g s next (moment_early ok dates b lawful.calendar g s.end next.moment.date)

  standing_fit : (b : Book) (i : ℕ) (report : Report) (c : Book) → Sound rack dates b → Step rack dates precedes b (AskStanding i) (Stands report) c → FitsFields report
  standing_fit b _ _ _ sound (stands i none) = standing_fits ok lawful.calendar b sound.alone i

  tells_at : (b : Book) (i d : ℕ) (report : Report) (c : Book) → Sound rack dates b → HasRun plan dates precedes b i d → Step rack dates precedes b (AskStanding i) (Stands report) c → Tells plan dates precedes b i d report
  tells_at b _ d report _ sound run (stands i none) =
      let now = run_live b i d run in
      let is = cond-false _ _ _ run.remains.kept ∙ cond-true _ _ _ now.0 in
      let since = ap (λ t. got rack.grain b.sheets i (t * rack.grain) (present_of rack b i * rack.grain)) now.1 in
      let had = ap (λ (x : Report). x.served) is in
      let late = ap (λ (x : Report). x.lag) is in
      record {
        phase' = ap (λ (x : Report). x.phase) is;
        date' = ap (λ (x : Report). x.date) is ∙ now.1;
        served' = had ∙ since;
        lag' = late ∙ ap (λ n. pos n -ℤ pos (rack.weight i * (present_of rack b i - date_of rack dates b i))) (sym had) ∙ ap (λ t. pos report.served -ℤ pos (rack.weight i * (present_of rack b i - t))) now.1;
        even = λ divided. late ∙ level _ _ (sound.shares i divided now.0);
      }

pub fair_shares : Always FairShares
fair_shares plan dates spacings precedes lawful b c e reached g words things s step calls answers led i d here divided run =
    let alive = (run_live lawful b i d run).0 in
    let first = share lawful b g words things s c (reached_sound lawful b reached) step i here divided alive in
    got_stays lawful i _ _ (live_model (ok lawful) dates b i alive) c calls answers e led (omega (arith, ap (λ t. t * (rack_of plan).grain) first.1)) ∙ first.0

pub one_worker : Always OneWorker
one_worker plan dates spacings precedes lawful b reached i x model = (reached_sound lawful b reached).alone i x model.first

pub whole_runs : Always WholeRuns
whole_runs plan dates spacings precedes lawful b c reached calls answers led i d remains date over =
    let used = used_of lawful b i remains in
    let model = used_model (rack_of plan) b i used in
    got_stays lawful i _ _ model b calls answers c led (mul-le-mul_right (rack_of plan).grain over) ∙ (reached_sound lawful b reached).full i d used date over

pub standings_tell : Always StandingsTell
standings_tell plan dates spacings precedes lawful b c reached i d run report step = tells_at lawful b i d report c (reached_sound lawful b reached) run step

pub sheets_fit : Always SheetsFit
sheets_fit plan dates spacings precedes lawful b c reached g words things s step long = sheet_fit lawful b g words things s c step

pub standings_fit : Always StandingsFit
standings_fit plan dates spacings precedes lawful b c reached i report step = standing_fit lawful b i report c (reached_sound lawful b reached) step
