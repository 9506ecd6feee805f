-- An advance of a roster that tells a book leaves a roster that tells the book after it.
use Rattle.std.proofs.Common.{◌≡◌, ◌≢◌, ℕ, ◌+◌, ◌-◌, ◌*◌, ◌≤◌, Bool, true, false, not, List, length, inl, inr, refl, ap, sym, ◌∙◌, subst, arith, None, Some, Err, Option, get_or-set_same, get_or-set_other}
use Rattle.std.specs.Prelude.{if◌then◌else◌, slice_index, slice_index_or, slice_set}
use Rattle.std.specs.Bool.{IsTrue, ◌==◌}
use Rattle.std.proofs.lemmas.Bool.{cases_eq, cases_Bool, eq-eqb, ne_eqb}
use Rattle.refusal.specs.Refusals.{told}
use Rattle.refusal.specs.declared.Refusal.{Refusal}
use Rattle.kinds.specs.declared.runs.Run.{Run}
use Rattle.dates.specs.Dates.{Earliest}
use Rattle.plan.specs.declared.plans.Plan.{Plan}
use Rattle.calendar.specs.declared.Calendar.{Ghosts as CalendarMeaning}
use Rattle.order.specs.declared.Order.{Ghosts as OrderMeaning}
use Rattle.order.specs.declared.Thing.{Ghosts as ThingMeaning}
use Rattle.book.specs.Sums.{total}
use Rattle.book.specs.Racks.{Rack, rack_of}
use Rattle.book.specs.Sheets.{Row, Sheet, rows_with}
use Rattle.book.specs.Books.{Book, blank, entered, is_model_of, group_with, is_moment, AtRest}
use Rattle.book.specs.Turns.{AreRows, IsNext}
use Rattle.book.specs.Calls.{Step, Advance, Advanced, Refused, advances, rests, about, no_moment, is_group}
use Rattle.book.specs.Laws.{Lawful}
use Rattle.book.proofs.Sums.{total_none}
use Rattle.book.proofs.Racks.{within_both, rack_of-IsRack}
use Rattle.book.proofs.Kept.{reached_sound, apart}
use Rattle.book.proofs.Given.{rows_with_none}
use Rattle.roster.specs.declared.Roster.{Roster}
use Rattle.roster.specs.declared.phase.Phase.{Phase}
use Rattle.roster.specs.declared.phase.Phase.TheVariants.{Waiting, Live, Withdrawn}
use Rattle.roster.specs.declared.event.Event.TheVariants.{Date, Service}
use Rattle.roster.specs.declared.record.Record.{Record}
use Rattle.roster.specs.Records.{met, phase_at}
use Rattle.roster.specs.Telling.{phase_of, IsBook}
use Rattle.roster.proofs.Keeping.{keeps_so}
use Rattle.roster.specs.Keeping.{IsBookOf, Keeps, Advances}
use Rattle.roster.specs.Advancing.{Served, rows_give, Settled, settled}
use Rattle.roster.specs.Coming.{dates_in}
use Rattle.roster.specs.declared.group.Group.{Group}
use Rattle.roster.specs.Intervals.{IsGroupOf, ComesTo}
use Rattle.roster.proofs.Checking.{inside_of, is_group_of}
use Rattle.book.proofs.Keeps.{reached_more}
use Rattle.roster.proofs.Withdrawing.{gone_phase, refused}
use Rattle.roster.proofs.Due.{settled_told}
use Rattle.roster.proofs.Parts.{rows_tile, parts_of_rows}
use Rattle.roster.proofs.Serving.{not_served}
use Rattle.roster.proofs.Turning.{turned, turned_here, turned_elsewhere, gone_here}

over_true : (over : Bool) (d x t : ℕ) → (met (if over then Waiting else Live d x) (Date t)) ≡ (if over then Live t 0 else Live d x)
over_true true d x t = refl
over_true false d x t = refl

turned_settled : (period t parts : ℕ) (dated : Bool) (p : Phase) → settled period dated t (met p (Service parts)) ≡ turned period dated t parts p
turned_settled period t parts true Waiting = refl
turned_settled period t parts false Waiting = refl
turned_settled period t parts true Withdrawn = refl
turned_settled period t parts false Withdrawn = refl
turned_settled period t parts true (Live d x) = over_true (d + period == t) d (x + parts) t
turned_settled period t parts false (Live d x) = refl

module _ {plan : Plan} {dates : ℕ → ℕ → Bool} {spacings : ℕ → ℕ} {precedes : Run → Run → Bool} (lawful : Lawful plan dates spacings precedes) (presents : List ℕ) (mirrored : List Bool) (records mid new : List Record)
    (b : Book) (says : IsBook plan dates precedes presents mirrored records b) (g words things : ℕ) (s : Sheet) (fine : about (rack_of plan) b (Advance g words things) ≡ None) (next : IsNext (rack_of plan) dates precedes b g s) where
  abbrev rack : Rack
  rack = rack_of plan

  abbrev parts : ℕ → ℕ
  parts i = total (rack.grain * (s.end - s.start)) (rows_with s.rows i)

  module _ (served : Served (rows_give s.rows) records mid) (settles : Settled plan dates g s.end mid new) (i : ℕ) (model : IsTrue (is_model_of rack i)) where
    bounds : (1 ≤ i) × (i ≤ rack.models)
    bounds = within_both 1 rack.models i model

    got : phase_at mid (i - 1) ≡ met (phase_of rack dates b i) (Service (parts i))
    got =
        let e : i - 1 + 1 ≡ i = omega (arith, bounds.0) in
        let ok = rack_of-IsRack plan in
        let given : rows_give s.rows (i - 1 + 1) ≡ parts i = ap (rows_give s.rows) e ∙ sym (parts_of_rows (rack.grain * (s.end - s.start)) i s.rows (rows_tile ok dates precedes b (s.end - s.start) s.first s.rows next.rows')) in
        served (i - 1) (omega (arith, bounds.0, bounds.1, ok.few_models)) ∙ ap (λ n. met (phase_at records (i - 1)) (Service n)) given ∙ ap (λ p. met p (Service (parts i))) (says.phases i model)

    here : group_with rack i ≡ g → phase_at new (i - 1) ≡ phase_of rack dates (entered b s) i
    here same =
        settles.0 i model same ∙ ap (settled (rack.period i) (dates i s.end) s.end) got ∙ turned_settled (rack.period i) s.end (parts i) (dates i s.end) (phase_of rack dates b i)
        ∙ elim (cases_Bool (b.withdrawn i)) [
          | inl gone ↦ ap (turned (rack.period i) (dates i s.end) s.end (parts i)) (gone_phase rack dates b i gone) ∙ sym (gone_here (rack_of-IsRack plan) (apart lawful) precedes b (reached_sound lawful b says.reached) g s next i model gone)
          | inr kept ↦ sym (turned_here (rack_of-IsRack plan) (apart lawful) precedes b (reached_sound lawful b says.reached) g s next i model kept same)
        ]

    elsewhere : group_with rack i ≢ g → phase_at new (i - 1) ≡ phase_of rack dates (entered b s) i
    elsewhere other =
        let none : parts i ≡ 0 = total_none (rack.grain * (s.end - s.start)) (rows_with s.rows i) (λ x l. rows_with_none (rack_of-IsRack plan) dates precedes b (s.end - s.start) s.rows s.first next.rows' g next.last next.workers next.all i x bounds.0 l (λ e. other e)) in
        settles.1 i model other ∙ got ∙ ap (λ n. met (phase_of rack dates b i) (Service n)) none ∙ not_served (phase_of rack dates b i)
        ∙ sym (turned_elsewhere (rack_of-IsRack plan) (apart lawful) precedes b (reached_sound lawful b says.reached) g s next i model (λ e. other e))

    pub phase_entered : phase_at new (i - 1) ≡ phase_of rack dates (entered b s) i
    phase_entered = elim (cases_eq (group_with rack i) g) [ inl same ↦ here same | inr other ↦ elsewhere other ]

  pub entered_says : Served (rows_give s.rows) records mid → Settled plan dates g s.end mid new → length presents ≡ 32 → length mirrored ≡ 32 → 1 ≤ g → g ≤ 32
      → IsBook plan dates precedes (slice_set presents (g - 1) s.end) (slice_set mirrored (g - 1) (not (slice_index_or mirrored (g - 1) false))) new (entered b s)
  entered_says served settles long wide some last = record {
    reached = reached_more says.reached (advances g words things s fine next);
    present' = λ h is. let w = within_both 1 (rack.group rack.workers) h is in elim (cases_eq h g) [
      | inl same ↦ rw (eq-eqb h s.group (same ∙ sym next.group')) (subst (λ k. slice_index (slice_set presents (g - 1) s.end) (k - 1) ≡ s.end) (sym same) (get_or-set_same presents (g - 1) s.end 0 (omega arith)))
      | inr other ↦ rw (ne_eqb h s.group (λ e. other (e ∙ next.group'))) (get_or-set_other presents (g - 1) (h - 1) s.end 0 (omega (arith, w.0)) ∙ says.present' h is)
    ];
    mirrored' = λ h is. let w = within_both 1 (rack.group rack.workers) h is in
        let flag = not (slice_index_or mirrored (g - 1) false) in
        elim (cases_eq h g) [
          | inl same ↦
              let this : IsTrue (is_group rack g) = subst (λ k. IsTrue (is_group rack k)) same is in
              rw (eq-eqb h s.group (same ∙ sym next.group')) (subst (λ k. slice_index_or (slice_set mirrored (g - 1) flag) (k - 1) false ≡ not (b.mirrored s.group)) (sym same) (get_or-set_same mirrored (g - 1) flag false (omega arith) ∙ ap not (says.mirrored' g this ∙ ap b.mirrored (sym next.group'))))
          | inr other ↦ rw (ne_eqb h s.group (λ e. other (e ∙ next.group'))) (get_or-set_other mirrored (g - 1) (h - 1) flag false (omega (arith, w.0)) ∙ says.mirrored' h is)
        ];
    phases = phase_entered served settles;
  }

module _ {C O : Type 0} {calendar : CalendarMeaning C} {order : OrderMeaning O Run} {thing : ThingMeaning Run} where
  -- a refused advance leaves lent memory as it was
  module _ (x : Roster C O calendar order thing) (g : ℕ) (words : List ℕ) (scratch : List Run) (e : Refusal) where
    refused_so : Advances (Err e) words words scratch scratch (Refused (told e))
    refused_so = record { agrees = refl; leaves = record { in_words = refl; in_scratch = refl } }

    pub advance_declines : about (rack_of x.plan.now) blank (Advance g (length words) (length scratch)) ≡ Some (told e) → Keeps x (Advance g (length words) (length scratch)) (Advances (Err e) words words scratch scratch) x
    advance_declines why = refused x (Advance g (length words) (length scratch)) e (λ b tells. why) (Advances (Err e) words words scratch scratch) refused_so

    pub advance_rests : about (rack_of x.plan.now) blank (Advance g (length words) (length scratch)) ≡ None → told e ≡ no_moment (rack_of x.plan.now) g
        → ((b : Book) → IsBookOf x b → AtRest (rack_of x.plan.now) (calendar.dates x.calendar.now) b g) → Keeps x (Advance g (length words) (length scratch)) (Advances (Err e) words words scratch scratch) x
    advance_rests fine is none = keeps_so refl refl refl (λ b tells. record {
      answer = Refused (told e);
      after = b;
      step = subst (λ a. Step (rack_of x.plan.now) (calendar.dates x.calendar.now) (order.precedes x.order.now) b (Advance g (length words) (length scratch)) (Refused a) b) (sym is) (rests g (length words) (length scratch) fine (none b tells));
      gives' = refused_so;
      is = tells;
    })

  module _ (x : Roster C O calendar order thing) (spacings : ℕ → ℕ) (lawful : Lawful x.plan.now (calendar.dates x.calendar.now) spacings (order.precedes x.order.now))
      (group : Group) (is : IsGroupOf x group) (end words things : ℕ) (rows : List Row) (mid new : List Record)
      (fine : about (rack_of x.plan.now) blank (Advance group.number words things) ≡ None) (all : group.workers.first + length rows ≡ group.workers.last + 1) where
    abbrev g : ℕ
    g = group.number

    -- the sheet of the interval
    abbrev pub sheet : Sheet
    sheet = record { group = g; start = slice_index x.presents (g - 1); end = end; first = group.workers.first; rows = rows }

    -- a withdrawn model is not served
    stays : Served (rows_give rows) x.models.records mid → (i : ℕ) → IsTrue (is_model_of (rack_of x.plan.now) i) → phase_at x.models.records (i - 1) ≡ Withdrawn → phase_at mid (i - 1) ≡ Withdrawn
    stays served i model gone =
        let w = within_both 1 (rack_of x.plan.now).models i model in
        served (i - 1) (omega (arith, w.0, w.1, x.plan.now.set.sizes.few_models)) ∙ ap (λ p. met p (Service (rows_give rows (i - 1 + 1)))) gone

    -- what the parts of an advance say makes it the book's step
    pub advanced : Served (rows_give rows) x.models.records mid → (table : List (Option ℕ)) → ComesTo x g table → Settled group.plan.now (dates_in table) g end mid new
        → (b : Book) → IsBookOf x b → Earliest (is_moment (rack_of x.plan.now) (calendar.dates x.calendar.now) b g) (b.present g + 1) end
        → AreRows (rack_of x.plan.now) (calendar.dates x.calendar.now) (order.precedes x.order.now) b (end - slice_index x.presents (g - 1)) group.workers.first rows
        → Step (rack_of x.plan.now) (calendar.dates x.calendar.now) (order.precedes x.order.now) b (Advance g words things) (Advanced sheet) (entered b sheet)
        × IsBook x.plan.now (calendar.dates x.calendar.now) (order.precedes x.order.now) (slice_set x.presents (g - 1) end) (slice_set x.mirrored (g - 1) (not (slice_index_or x.mirrored (g - 1) false))) new (entered b sheet)
    advanced served table comes settles b tells moment are =
        let here = is_group_of x group is in
        let settles' = settled_told lawful b tells g table end mid new here comes moment (stays served) (subst (λ (p : Plan). Settled p (dates_in table) g end mid new) is.plan' settles) in
        let next : IsNext (rack_of x.plan.now) (calendar.dates x.calendar.now) (order.precedes x.order.now) b g sheet = record {
          group' = refl;
          start' = tells.present' g here;
          moment = moment;
          last = group.workers.last;
          workers = inside_of x group is;
          all = all;
          rows' = are;
        } in
        (advances g words things sheet fine next, entered_says lawful x.presents x.mirrored x.models.records mid new b tells g words things sheet fine next served settles' x.groups x.flags is.some is.few)
