-- What entries come to, from the laws of all lists of calls.
use Rattle.std.proofs.Common.{◌≡◌, ℕ, ◌+◌, ◌-◌, ◌*◌, ◌≤◌, Bool, List, map, drop, refl, sym, ap, ◌∙◌, subst, arith, Some, slice_get}
use Rattle.kinds.specs.declared.runs.Run.{Run}
use Rattle.plan.specs.declared.plans.Plan.{Plan}
use Rattle.book.specs.Racks.{Rack, rack_of}
use Rattle.book.specs.Sheets.{Sheet, got, workers_with}
use Rattle.book.specs.Books.{Book, blank, group_with, present_of}
use Rattle.book.specs.Calls.{Answer as Given, Leads}
use Rattle.book.specs.Laws.{Lawful, Reached, Remains, HasRun}
use Rattle.book.proofs.Due.{goes_on}
use Rattle.book.proofs.Kept.{fair_shares, one_worker, whole_runs}
use Rattle.book.proofs.Only.{none_withdrawn}
use Rattle.season.specs.declared.entry.Entry.{Entry}
use Rattle.season.specs.Reading.{sheets_in}
use Rattle.season.specs.Serving.{InUse, Serves}
use Rattle.season.specs.Performing.{asked_by, Hold}
use Rattle.season.proofs.Reading.{held_all}
use Rattle.season.proofs.Cutting.{Cut, cut, Next, next, next_adds, next_out, slice_get-drop}

module _ {plan : Plan} {dates : ℕ → ℕ → Bool} {spacings : ℕ → ℕ} {precedes : Run → Run → Bool} (lawful : Lawful plan dates spacings precedes)
    (olds news : List Entry) (givens : List Given) (e : Book) (led : Leads (rack_of plan) dates precedes blank (map asked_by olds) givens e) (hold : Hold olds givens news) where
  abbrev rack : Rack
  rack = rack_of plan

  held : e.sheets ≡ sheets_in news
  held = held_all blank e olds news givens led hold

  at : (k : ℕ) → Cut rack dates precedes blank e olds news givens k
  at k = cut rack dates precedes blank e olds news givens k led hold

  reached : (k : ℕ) → Reached plan dates precedes (at k).at
  reached k = record { calls = (at k).calls; answers = (at k).answers; led = (at k).made }

  remains : (k i : ℕ) → InUse plan dates news k i → Remains plan dates precedes (at k).at i
  remains k i use' = record { from_one = use'.model.first; to_last = use'.model.last; kept = (at k).kept i refl use'.kept }

  next_at : (k : ℕ) (entry : Entry) → slice_get news k ≡ Some entry → Next rack dates precedes (at k).at e entry
  next_at k entry there = next rack dates precedes (at k).at e (drop k olds) (drop k news) (drop k givens) entry (at k).follow (at k).hold (slice_get-drop news k ∙ there)

  pub serves : Serves plan dates news
  serves = record {
    joins = λ k s holds.
        let w = next_at k holds.entry holds.there in
        let a = next_adds rack dates precedes (at k).at e holds.entry s w holds.reads in
        (a.start' ∙ (at k).present s.group, goes_on plan dates spacings precedes lawful (at k).at w.after (reached k) s.group a.words a.things s a.step);
    shares = λ k s holds i d used here divided date begun goes.
        let w = next_at k holds.entry holds.there in
        let a = next_adds rack dates precedes (at k).at e holds.entry s w holds.reads in
        let now : present_of rack (at k).at i ≡ s.start = ap (at k).at.present here ∙ sym a.start' in
        let run : HasRun plan dates precedes (at k).at i d = record { remains = remains k i used; date = date; begun = omega (arith, now, begun); goes = omega (arith, now, goes) } in
        subst (λ (ss : List Sheet). got rack.grain ss i (s.start * rack.grain) (s.end * rack.grain) ≡ rack.weight i * (s.end - s.start)) held
        (fair_shares plan dates spacings precedes lawful (at k).at w.after e (reached k) s.group a.words a.things s a.step w.calls w.answers w.follow i d here divided run);
    apart = λ i x model. subst (λ (ss : List Sheet). workers_with rack.grain ss i x ≤ 1) held (one_worker plan dates spacings precedes lawful e (record { calls = map asked_by olds; answers = givens; led = led }) i x model);
    whole = λ k i d used date over.
        subst (λ (ss : List Sheet). got rack.grain ss i (d * rack.grain) ((d + rack.period i) * rack.grain) ≡ rack.parts i) held
        (whole_runs plan dates spacings precedes lawful (at k).at e (reached k) (map asked_by (drop k olds)) (drop k givens) (at k).follow i d (remains k i used) date (omega (arith, (at k).present (group_with rack i), over)));
    out = λ k i out x past.
        let w = next_at k out.entry out.there in
        subst (λ (ss : List Sheet). workers_with rack.grain ss i x ≡ 0) held
        (none_withdrawn plan dates spacings precedes lawful (at k).at w.after e (reached k) i (next_out rack dates precedes (at k).at e out.entry i w out.out) w.calls w.answers w.follow x (subst (λ (t : ℕ). t * rack.grain ≤ x) (sym ((at k).present (group_with rack i))) past));
  }
