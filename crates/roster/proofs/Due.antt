-- The next moment of a group, from the dates to come and the ends of runs.
use Rattle.std.proofs.Common.{◌≡◌, ◌≢◌, ℕ, ◌+◌, ◌-◌, ◌^◌, ◌<◌, ◌≤◌, Bool, true, false, not, ◌&&◌, ◌||◌, List, inl, inr, refl, ap, sym, ◌∙◌, subst, arith, Some, Option}
use Rattle.std.specs.Prelude.{slice_index}
use Rattle.std.specs.Bool.{IsTrue, IsFalse, ◌==◌}
use Rattle.std.proofs.lemmas.Bool.{cases_lt, cases_eq, cases_Bool, both_ways, and_from, le-leb, eq-eqb, ne_eqb, eqb-true}
use Rattle.kinds.specs.declared.runs.Run.{Run}
use Rattle.dates.specs.Dates.{Earliest}
use Rattle.plan.specs.declared.plans.Plan.{Plan}
use Rattle.book.specs.Sums.{some_of}
use Rattle.book.specs.Racks.{Rack, rack_of}
use Rattle.book.specs.Sheets.{Sheet}
use Rattle.book.specs.Books.{Book, entered, is_model_of, group_with, is_live, date_of, served, is_moment}
use Rattle.book.specs.Calls.{is_group}
use Rattle.book.specs.Laws.{Lawful, Reached}
use Rattle.book.proofs.Racks.{within_both, rack_of-IsRack}
use Rattle.book.proofs.Keeps.{calls_keep}
use Rattle.book.proofs.Exists.{moment_early}
use Rattle.book.proofs.Lives.{lives, moment_at_date}
use Rattle.roster.specs.declared.phase.Phase.{Phase}
use Rattle.roster.specs.declared.phase.Phase.TheVariants.{Waiting, Live, Withdrawn}
use Rattle.roster.specs.declared.record.Record.{Record}
use Rattle.roster.specs.Records.{phase_at}
use Rattle.roster.specs.Telling.{IsBook}
use Rattle.roster.specs.Advancing.{Soonest, settled, Settled}
use Rattle.roster.specs.Coming.{deadline_in, moment_of, coming_at, dates_in, Comes, next_by}
use Rattle.roster.proofs.Soonest.{soonest_same, soonest_at, soonest_or, soonest_if, earliest_soonest, some_of_alike, is_known}
use Rattle.roster.proofs.Turning.{pick}
use Rattle.roster.proofs.Phases.{by_phase}
use Rattle.roster.proofs.Withdrawing.{gone_phase, phase_gone}

-- at tick t a model in a phase has a date, or its run ends
abbrev pub is_due : ℕ → Bool → ℕ → Phase → Bool
is_due period dated t Waiting = dated
is_due period dated t (Live date served) = dated || date + period == t
is_due period dated t Withdrawn = false

-- by these records, something is due for group g at tick t
abbrev pub due_by : Plan → (ℕ → ℕ → Bool) → List Record → ℕ → ℕ → Bool
due_by plan dates records g t =
    let rack = rack_of plan in
    some_of rack.models (λ i. (group_with rack i == g) && is_due (rack.period i) (dates i t) t (phase_at records (i - 1)))

-- a run in this phase ends at a tick from this one on
abbrev pub EndsFrom : ℕ → ℕ → Phase → Type 0
EndsFrom period from p = (d x : ℕ) → p ≡ Live d x → from ≤ deadline_in period p

moment_soonest : (period from : ℕ) (dates : ℕ → Bool) (p : Phase) (coming : Option ℕ) → (p ≢ Withdrawn → Soonest dates from coming) → EndsFrom period from p → Soonest (λ t. is_due period (dates t) t p) from (moment_of period p coming)
moment_soonest period from dates Waiting coming asked ends = asked (λ e. absurd (cc))
moment_soonest period from dates (Live d x) coming asked ends = soonest_or dates (λ t. d + period == t) from coming (Some (d + period)) (asked (λ e. absurd (cc))) (soonest_at from (d + period) (ends d x refl))
moment_soonest period from dates Withdrawn coming asked ends = λ t l. refl

-- what a table of the dates to come gives is the soonest tick at which something is due
pub due_soonest : (plan : Plan) (dates : ℕ → ℕ → Bool) (records : List Record) (g from : ℕ) (table : List (Option ℕ)) → Comes plan dates records g from table
    → ((i : ℕ) → IsTrue (is_model_of (rack_of plan) i) → group_with (rack_of plan) i ≡ g → EndsFrom ((rack_of plan).period i) from (phase_at records (i - 1)))
    → Soonest (due_by plan dates records g) from (next_by plan records table g)
due_soonest plan dates records g from table comes ends =
    let rack = rack_of plan in
    earliest_soonest rack.models (λ i t. (group_with rack i == g) && is_due (rack.period i) (dates i t) t (phase_at records (i - 1))) from _ (λ i some last.
    let model : IsTrue (is_model_of rack i) = and_from _ _ (le-leb 1 i some) (le-leb i rack.models last) in
    soonest_if (group_with rack i == g) (λ t. is_due (rack.period i) (dates i t) t (phase_at records (i - 1))) from _ (λ here.
    let same = eqb-true (group_with rack i) g here in
    moment_soonest (rack.period i) from (dates i) (phase_at records (i - 1)) (coming_at table (i - 1)) (comes i model same) (ends i model same)))

-- what is due of a model, where its run ends, and that this fits, by the tests of its phase
due_phase : (model gone live dated : Bool) (d x period t : ℕ) → model ≡ true → ((model && not gone) && (dated || (live && (d + period == t)))) ≡ is_due period dated t (pick gone live d x)
due_phase false gone live dated d x period t e = absurd (cc)
due_phase true true live dated d x period t e = refl
due_phase true false true dated d x period t e = refl
due_phase true false false true d x period t e = refl
due_phase true false false false d x period t e = refl

-- a withdrawn model stays so, whatever dates it has
stays_gone : (period t : ℕ) (dated : Bool) → settled period dated t Withdrawn ≡ Withdrawn
stays_gone period t true = refl
stays_gone period t false = refl

settled_gone : (period t : ℕ) (dated dated' : Bool) (p : Phase) → p ≡ Withdrawn → settled period dated t p ≡ settled period dated' t p
settled_gone period t dated dated' p e = rw e (stays_gone period t dated ∙ sym (stays_gone period t dated'))

module _ {plan : Plan} {dates : ℕ → ℕ → Bool} {spacings : ℕ → ℕ} {precedes : Run → Run → Bool} (lawful : Lawful plan dates spacings precedes) (b : Book) where
  abbrev rack : Rack
  rack = rack_of plan

  abbrev Early : Book → Type 0
  Early b = (g : ℕ) → b.present g < 2 ^ 30 + 100801

  early_entered : (b : Book) (g : ℕ) (s : Sheet) → s.end < 2 ^ 30 + 100801 → Early b → Early (entered b s)
  early_entered b g s small was h = elim (cases_eq h s.group) [
    | inl same ↦ rw (eq-eqb h s.group same) small
    | inr other ↦ rw (ne_eqb h s.group other) (was h)
  ]

  -- no group of a book that calls have led to is behind the last moment that there can be
  pub present_early : Reached plan dates precedes b → (g : ℕ) → b.present g < 2 ^ 30 + 100801
  present_early r = calls_keep Early (λ b g s next. early_entered b g s (moment_early (rack_of-IsRack plan) dates b lawful.calendar g s.end next.moment.date)) (λ b i was. was) r.led (λ g. omega arith)

  module _ {presents : List ℕ} {mirrored : List Bool} {records : List Record} (says : IsBook plan dates precedes presents mirrored records b) (g : ℕ) where
    -- a roster's records say just what is due in a book that it tells
    pub moment_told : (t : ℕ) → is_moment rack dates b g t ≡ due_by plan dates records g t
    moment_told t = some_of_alike rack.models _ _ (λ i some last.
        let model : IsTrue (is_model_of rack i) = and_from _ _ (le-leb 1 i some) (le-leb i rack.models last) in
        ap (λ x. (group_with rack i == g) && x)
        (due_phase (is_model_of rack i) (b.withdrawn i) (is_live rack dates b i) (dates i t) (date_of rack dates b i) (served rack dates b i) (rack.period i) t model
        ∙ ap (is_due (rack.period i) (dates i t) t) (sym (says.phases i model))))

    pub ends_told : (i : ℕ) → IsTrue (is_model_of rack i) → group_with rack i ≡ g → EndsFrom (rack.period i) (b.present g + 1) (phase_at records (i - 1))
    ends_told i model same = by_phase (EndsFrom (rack.period i) (b.present g + 1)) b says i model (λ d x is. absurd (cc)) (λ d x is. absurd (cc)) (λ live d x is.
        let l = lives rack dates b i live in
        let here : b.present (group_with rack i) ≡ b.present g = ap b.present same in
        let run : deadline_in (rack.period i) (Live (date_of rack dates b i) (served rack dates b i)) ≡ deadline_in (rack.period i) (Live d x) = ap (deadline_in (rack.period i)) is in
        omega (arith, l.goes, here, run))

    pub deadline_small : (i : ℕ) → IsTrue (is_model_of rack i) → deadline_in (rack.period i) (phase_at records (i - 1)) < 2 ^ 32
    deadline_small i model = by_phase (λ p. deadline_in (rack.period i) p < 2 ^ 32) b says i model (omega arith) (omega arith) (λ live.
        let l = lives rack dates b i live in
        let w = within_both 1 rack.models i model in
        omega (arith, lawful.calendar.early i (date_of rack dates b i) l.date, ((rack_of-IsRack plan).fine i w.0 w.1).small_period))

    pub present_small : IsTrue (is_group rack g) → slice_index presents (g - 1) < 2 ^ 30 + 100801
    present_small is = omega (arith, says.present' g is, present_early says.reached g)

    pub next_told : IsTrue (is_group rack g) → (table : List (Option ℕ)) → Comes plan dates records g (slice_index presents (g - 1) + 1) table → Soonest (is_moment rack dates b g) (b.present g + 1) (next_by plan records table g)
    next_told is table comes =
        let from : slice_index presents (g - 1) + 1 ≡ b.present g + 1 = ap (λ t. t + 1) (says.present' g is) in
        soonest_same (due_by plan dates records g) (is_moment rack dates b g) (b.present g + 1) (next_by plan records table g) moment_told
        (due_soonest plan dates records g (b.present g + 1) table (subst (λ t. Comes plan dates records g t table) from comes) ends_told)

    -- at the next moment the table tells of each date that the calendar has
    date_known : (table : List (Option ℕ)) (t : ℕ) → Comes plan dates records g (b.present g + 1) table → Earliest (is_moment rack dates b g) (b.present g + 1) t
        → (i : ℕ) → IsTrue (is_model_of rack i) → group_with rack i ≡ g → IsFalse (b.withdrawn i) → dates_in table i t ≡ dates i t
    date_known table t comes moment i model same kept =
        let asked : phase_at records (i - 1) ≢ Withdrawn = λ gone. both_ways _ kept (phase_gone rack dates b i (sym (says.phases i model) ∙ gone)) in
        is_known (dates i) (b.present g + 1) t (coming_at table (i - 1)) (comes i model same asked) moment.later (λ d later date.
        let hit : IsTrue (is_moment rack dates b g d) = subst (λ h. IsTrue (is_moment rack dates b h d)) same (moment_at_date rack dates b i d (and_from _ _ model (ap not kept)) date) in
        elim (cases_lt d t) [
          | inl sooner ↦ absurd (both_ways _ (moment.first d later sooner) hit)
          | inr not_sooner ↦ not_sooner
        ])

    -- so what is settled by the table is settled by the calendar
    pub settled_told : (table : List (Option ℕ)) (t : ℕ) (mid new : List Record) → IsTrue (is_group rack g) → Comes plan dates records g (slice_index presents (g - 1) + 1) table → Earliest (is_moment rack dates b g) (b.present g + 1) t
        → ((i : ℕ) → IsTrue (is_model_of rack i) → phase_at records (i - 1) ≡ Withdrawn → phase_at mid (i - 1) ≡ Withdrawn) → Settled plan (dates_in table) g t mid new → Settled plan dates g t mid new
    settled_told table t mid new is comes moment stay settles =
        let from : slice_index presents (g - 1) + 1 ≡ b.present g + 1 = ap (λ u. u + 1) (says.present' g is) in
        let known = date_known table t (subst (λ u. Comes plan dates records g u table) from comes) moment in (
          (λ i model same. settles.0 i model same ∙ elim (cases_Bool (b.withdrawn i)) [
            | inl gone ↦
                let e = stay i model (says.phases i model ∙ gone_phase rack dates b i gone) in
                settled_gone (rack.period i) t (dates_in table i t) (dates i t) _ e
            | inr kept ↦ ap (λ d. settled (rack.period i) d t (phase_at mid (i - 1))) (known i model same kept)
          ]),
          settles.1,
        )
