-- One advance of each group after another, and their lines.
use Rattle.std.proofs.Common.{◌≡◌, ℕ, ◌+◌, ◌-◌, ◌≤◌, true, nat_le, List, [], ◌∷◌, ◌++◌, length, append-nil, None, Result, refl, sym, ap, ◌∙◌, subst, length-append, arith}
use Rattle.std.specs.List.{flat_map}
use Rattle.std.proofs.lemmas.Bool.{cond-true, and_from, le-leb}
use Rattle.std.proofs.lemmas.Grind.{flat_map-append}
use Rattle.std.proofs.lemmas.List.FromFn.{map-range_with_len_more}
use Rattle.refusal.specs.declared.Refusal.{Refusal}
use Rattle.refusal.proofs.Firsts.{none_of}
use Rattle.order.specs.Keys.{by_keys}
use Rattle.kinds.specs.Keys.{keys_by_model}
use Rattle.kinds.specs.declared.runs.Run.{Run}
use Rattle.order.proofs.Keyed.{by_keys-OrderLaws}
use Rattle.dates.specs.declared.phase.Phase.{Phase}
use Rattle.dates.specs.Phases.{phase_dates, phase_spacings}
use Rattle.dates.proofs.Phases.{phase-CalendarLaws}
use Rattle.plan.specs.declared.plans.Plan.{Plan}
use Rattle.plan.specs.Groups.{CountsIn}
use Rattle.plan.proofs.Spans.{counts_top}
use Rattle.set.specs.Heavy.{heavy_count_of}
use Rattle.calendar.specs.declared.Calendar.{Ghosts as CalendarMeaning}
use Rattle.order.specs.declared.Order.{Ghosts as OrderMeaning}
use Rattle.order.specs.declared.Thing.{Ghosts as ThingMeaning}
use Rattle.book.specs.Racks.{rack_of}
use Rattle.book.specs.Books.{Book, blank}
use Rattle.book.specs.Calls.{Call, Advance, Answer, Leads, ends, about_opening}
use Rattle.book.specs.Laws.{Lawful}
use Rattle.book.proofs.Exists.{answered}
use Rattle.book.proofs.Keeps.{leads_more}
use Rattle.roster.specs.declared.Roster.{Roster}
use Rattle.roster.specs.Keeping.{At, Opened, Keeps, Advances, advance_of}
use Rattle.calendars.specs.Periods.{own_dates, own_spacings}
use Rattle.printout.specs.declared.page.Page.{Page}
use Rattle.printout.specs.Texts.{answer_text}
use Rattle.printout.specs.Printing.{one_of_each, first_advances}
use Rattle.printout.specs.Pages.{Fits, HasRoom, Appends}
use Rattle.printout.specs.Showing.{given_text, ShowsGroups}
use Rattle.printout.proofs.Pages.{room_left, appends_same, appends_append, appends_none}
use Rattle.printout.proofs.Given.{HasText, step_has}
use Rattle.printout.proofs.Rooms.{groups_most}

-- where the spacings are the periods, a roster opens
own_spaced : (plan : Plan) → about_opening (rack_of plan) (own_spacings plan.set) ≡ None
own_spaced plan = none_of _ (rack_of plan).models (λ k l.
    let is : own_spacings plan.set (k + 1) ≡ (rack_of plan).period (k + 1) = cond-true _ _ _ (and_from _ _ (le-leb 1 (k + 1) (omega arith)) (le-leb (k + 1) (rack_of plan).models (omega arith))) in
    let long : nat_le ((rack_of plan).period (k + 1)) (own_spacings plan.set (k + 1)) ≡ true = le-leb _ _ (omega arith) in
    rw long refl)

pub own_opens : (plan : Plan) (spacings : ℕ → ℕ) → spacings ≡ own_spacings plan.set → about_opening (rack_of plan) spacings ≡ None
own_opens plan spacings same = rw same (own_spaced plan)

-- over its own dates a roster is opened lawfully
pub own_lawful : (plan : Plan) (phases : List Phase) → phase_dates phases ≡ own_dates plan.set → phase_spacings phases ≡ own_spacings plan.set
    → Lawful plan (own_dates plan.set) (own_spacings plan.set) (by_keys keys_by_model)
own_lawful plan phases dates spacings = record { calendar = rw (dates, spacings) at (phase-CalendarLaws phases); order = by_keys-OrderLaws keys_by_model 1; spaced = own_spaced plan }

-- there is a group
pub count_some : (plan : Plan) (count : ℕ) → CountsIn plan.set count → 1 ≤ count
count_some plan count counts =
    let some = plan.set.sizes.some_workers in
    let first = counts.every 1 (omega arith) (omega arith) in
    omega (arith, first)

-- groups are numbered up to that of the last worker
pub count_is : (plan : Plan) (count : ℕ) → CountsIn plan.set count → count ≡ (rack_of plan).group (rack_of plan).workers
count_is plan count counts = counts_top (heavy_count_of plan.set) plan.set.sizes.group_size plan.set.sizes.some_group plan.set.sizes.workers count plan.set.sizes.some_workers counts

module _ (plan : Plan) where
  abbrev LeadsTo : List Call → List Answer → Book → Type 0
  LeadsTo = Leads (rack_of plan) (own_dates plan.set) (by_keys keys_by_model) blank

  abbrev OwnLawful : Type 0
  OwnLawful = Lawful plan (own_dates plan.set) (own_spacings plan.set) (by_keys keys_by_model)

module _ {C O : Type 0} {calendar : CalendarMeaning C} {order : OrderMeaning O Run} {thing : ThingMeaning Run} (plan : Plan) (c : C) (o : O) (p : Page) where
  -- the first n groups were advanced, and q is p with their lines
  pub record UpTo (n : ℕ) (x : Roster C O calendar order thing) (q : Page) : Type 0 where
    pub answers : List Answer
    pub end : Book
    pub led : LeadsTo plan (one_of_each n) answers end
    pub at : At plan c o x end
    pub appends : Appends p (flat_map answer_text answers) q

  pub upto_none : (n : ℕ) (x : Roster C O calendar order thing) → HasRoom p n → Opened plan c o x → UpTo 0 x p
  upto_none n x fits opened = record { answers = []; end = blank; led = ends blank; at = opened; appends = appends_none p (omega (arith, fits)) }

  -- group g was advanced too, with this result and these words, and its lines are still to be written
  pub record Next (g : ℕ) (result : Result (ℕ × ℕ × ℕ × ℕ) Refusal) (words : List ℕ) (y : Roster C O calendar order thing) (q : Page) : Type 0 where
    pub answers : List Answer
    pub answer : Answer
    pub end : Book
    pub led : LeadsTo plan (one_of_each g) (answers ++ answer ∷ []) end
    pub at : At plan c o y end
    pub appends : Appends p (flat_map answer_text answers) q
    pub has : HasText g result words answer

  module _ (dates : calendar.dates c ≡ own_dates plan.set) (precedes : order.precedes o ≡ by_keys keys_by_model) where
    pub next : {g : ℕ} {x y : Roster C O calendar order thing} {q : Page} {result : Result (ℕ × ℕ × ℕ × ℕ) Refusal} {words words' : List ℕ} {scratch scratch' : List Run}
        → 1 ≤ g → length words ≡ 512 → length scratch ≡ 64 → UpTo (g - 1) x q → Keeps x (advance_of g words scratch) (Advances result words words' scratch scratch') y → Next g result words' y q
    next {g} some long roomy upto keeps =
        let goes = keeps.goes upto.at in
        let step = rw (dates, precedes, long, roomy) at goes.step in
        let last : g - 1 + 1 ≡ g = omega arith in
        let more : one_of_each g ≡ one_of_each (g - 1) ++ Advance g 512 64 ∷ [] = ap one_of_each (sym last) ∙ map-range_with_len_more (λ h. Advance h 512 64) 1 (g - 1) g (omega arith) in
        record {
          answers = upto.answers;
          answer = goes.answer;
          end = goes.after;
          led = rw more (leads_more upto.led step);
          at = goes.at;
          appends = upto.appends;
          has = step_has step goes.gives';
        }

  module _ {g : ℕ} {y : Roster C O calendar order thing} {q : Page} {result : Result (ℕ × ℕ × ℕ × ℕ) Refusal} {words : List ℕ} (u : Next g result words y q) where
    both : flat_map answer_text (u.answers ++ u.answer ∷ []) ≡ flat_map answer_text u.answers ++ answer_text u.answer
    both = flat_map-append answer_text u.answers (u.answer ∷ []) ∙ ap (λ t. flat_map answer_text u.answers ++ t) (append-nil (answer_text u.answer))

    pub next_fits : OwnLawful plan → HasRoom p 7062 → g ≤ (rack_of plan).group (rack_of plan).workers → Fits q (given_text g result words)
    next_fits lawful room among =
        let few = groups_most plan (own_dates plan.set) (own_spacings plan.set) (by_keys keys_by_model) lawful g among (u.answers ++ u.answer ∷ []) u.end u.led in
        let all : length (flat_map answer_text u.answers) + length (answer_text u.answer) ≤ 7062 = omega (arith, ap length both, length-append (flat_map answer_text u.answers) (answer_text u.answer), few) in
        rw u.has.same (room_left p q (flat_map answer_text u.answers) (length (answer_text u.answer)) u.appends (omega arith))

    pub upto_next : {r : Page} → Appends q (given_text g result words) r → UpTo g y r
    upto_next {r} a = record {
      answers = u.answers ++ u.answer ∷ [];
      end = u.end;
      led = u.led;
      at = u.at;
      appends = appends_same p r _ _ (sym both) (appends_append p q r (flat_map answer_text u.answers) (answer_text u.answer) u.appends (appends_same q r _ _ u.has.same a));
    }

  -- all groups were advanced
  pub upto_all : OwnLawful plan → {n : ℕ} {x : Roster C O calendar order thing} {q : Page} → n ≡ (rack_of plan).group (rack_of plan).workers → UpTo n x q → ShowsGroups plan p q
  upto_all lawful {n} {x} {q} all upto =
      let law = answered plan (own_dates plan.set) (own_spacings plan.set) (by_keys keys_by_model) lawful (first_advances plan) in
      let mine = subst (λ m. UpTo m x q) all upto in
      record {
        answered = law;
        appends = appends_same p q _ _ (ap (flat_map answer_text) (law.only mine.answers mine.end mine.led).0) mine.appends;
        short = groups_most plan (own_dates plan.set) (own_spacings plan.set) (by_keys keys_by_model) lawful _ (omega arith) law.answers law.end law.led;
      }
