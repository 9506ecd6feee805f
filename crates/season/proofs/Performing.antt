-- What a whole list of calls comes to.
use Rattle.std.proofs.Common.{◌≡◌, ℕ, zero, suc, refl, IsSome, ◌+◌, ◌<◌, ◌≤◌, List, [], ◌∷◌, ◌++◌, length, map, take, drop, get_or, sym, ap, ◌∙◌, subst, arith}
use Rattle.std.proofs.lemmas.List.{take_more, take_more_set, take_all, map-append, get_or-drop}
use Rattle.std.proofs.Math.ListN.{set}
use Rattle.kinds.specs.declared.runs.Run.{Run}
use Rattle.plan.specs.declared.plans.Plan.{Plan}
use Rattle.calendar.specs.declared.Calendar.{Ghosts as CalendarMeaning}
use Rattle.order.specs.declared.Order.{Ghosts as OrderMeaning}
use Rattle.order.specs.declared.Thing.{Ghosts as ThingMeaning}
use Rattle.book.specs.Racks.{rack_of}
use Rattle.book.specs.Books.{Book, blank}
use Rattle.book.specs.Calls.{Call as Asked, Answer as Given, Step, Leads, ends}
use Rattle.book.specs.Laws.{Lawful}
use Rattle.book.proofs.Keeps.{leads_more}
use Rattle.book.proofs.Once.{leads_once}
use Rattle.roster.specs.declared.Roster.{Roster}
use Rattle.roster.specs.Keeping.{At, Keeps, Opened}
use Rattle.season.specs.declared.entry.Entry.{Entry}
use Rattle.season.specs.Performing.{asked_by, Holds, Hold, hold_none, hold_more, Performed}
use Rattle.season.proofs.Reading.{held_all}
use Rattle.season.proofs.Serving.{serves}

-- an entry more
hold_on : (olds news : List Entry) (givens : List Given) (old new : Entry) (given : Given) → Hold olds givens news → Holds old given new → Hold (olds ++ old ∷ []) (givens ++ given ∷ []) (news ++ new ∷ [])
hold_on _ _ _ old new given hold_none last = hold_more old new given [] [] [] last hold_none
hold_on _ _ _ old new given (hold_more a c b olds news givens one others) last =
    hold_more a c b (olds ++ old ∷ []) (news ++ new ∷ []) (givens ++ given ∷ []) one (hold_on olds news givens old new given others last)

-- each entry is answered, and its words are as many as before
pub answered_at : {olds news : List Entry} {givens : List Given} → Hold olds givens news → (k : ℕ) (d : Entry) → k < length olds → IsSome (get_or news k d).answer
answered_at hold_none k d l = absurd (omega (arith, l))
answered_at (hold_more _ _ _ _ _ _ met others) zero d l = rw met.answer' refl
answered_at (hold_more _ _ _ _ _ _ met others) (suc k) d l = answered_at others k d (omega (arith, l))

pub long_at : {olds news : List Entry} {givens : List Given} → Hold olds givens news → (k : ℕ) (d : Entry) → length (get_or news k d).sheet.now ≡ length (get_or olds k d).sheet.now
long_at hold_none k d = refl
long_at (hold_more _ _ _ _ _ _ met others) zero d = met.long.0
long_at (hold_more _ _ _ _ _ _ met others) (suc k) d = long_at others k d

module _ {C O : Type 0} {calendar : CalendarMeaning C} {order : OrderMeaning O Run} {thing : ThingMeaning Run} (plan : Plan) (c : C) (o : O) where
  -- entries have the book's answers, and the roster is at the book after them
  pub record Told (olds news : List Entry) (x : Roster C O calendar order thing) : Type 0 where
    pub givens : List Given
    pub book : Book
    pub led : Leads (rack_of plan) (calendar.dates c) (order.precedes o) blank (map asked_by olds) givens book
    pub at : At plan c o x book
    pub hold : Hold olds givens news

  pub told_none : (x : Roster C O calendar order thing) → Opened plan c o x → Told [] [] x
  told_none x opened = record { givens = []; book = blank; led = ends blank; at = opened; hold = hold_none }

  pub told_more : (olds news : List Entry) (x y : Roster C O calendar order thing) (k : ℕ) (d new : Entry) → k < length olds → length news ≡ length olds → drop k news ≡ drop k olds
      → Told (take k olds) (take k news) x → Keeps x (asked_by (get_or news k d)) (λ given. Holds (get_or news k d) given new) y → Told (take (k + 1) olds) (take (k + 1) (set news k new)) y
  told_more olds news x y k d new l long rest told performs =
      let old = get_or olds k d in
      let plus : k + 0 ≡ k = omega arith in
      let same : get_or news k d ≡ old = subst (λ j. get_or news j d ≡ get_or olds j d) plus (sym (get_or-drop k news 0 d) ∙ ap (λ (es : List Entry). get_or es 0 d) rest ∙ get_or-drop k olds 0 d) in
      let w = performs.goes told.at in
      let led = leads_more told.led (subst (λ (en : Entry). Step (rack_of plan) (calendar.dates c) (order.precedes o) told.book (asked_by en) w.answer w.after) same w.step) in
      let hold = hold_on (take k olds) (take k news) told.givens old new w.answer told.hold (subst (λ (en : Entry). Holds en w.answer new) same w.gives') in
      let front : take (k + 1) olds ≡ take k olds ++ old ∷ [] = take_more olds k d l in
      let calls : map asked_by (take k olds) ++ asked_by old ∷ [] ≡ map asked_by (take (k + 1) olds) = sym (ap (map asked_by) front ∙ map-append asked_by (take k olds) (old ∷ [])) in
      record {
        givens = told.givens ++ w.answer ∷ [];
        book = w.after;
        led = subst (λ (cs : List Asked). Leads (rack_of plan) (calendar.dates c) (order.precedes o) blank cs (told.givens ++ w.answer ∷ []) w.after) calls led;
        at = w.at;
        hold = subst (λ (ns : List Entry). Hold (take (k + 1) olds) (told.givens ++ w.answer ∷ []) ns) (sym (take_more_set news k new (omega arith))) (subst (λ (os : List Entry). Hold os (told.givens ++ w.answer ∷ []) (take k news ++ new ∷ [])) (sym front) hold);
      }

  module _ (spacings : ℕ → ℕ) (lawful : Lawful plan (calendar.dates c) spacings (order.precedes o)) (olds news : List Entry) (x : Roster C O calendar order thing) where
    performed : Told olds news x → Performed plan (calendar.dates c) (order.precedes o) olds news
    performed told = record {
      answered = record {
        answers = told.givens;
        end = told.book;
        led = told.led;
        only = λ others other led. leads_once (rack_of plan) (calendar.dates c) (order.precedes o) blank (map asked_by olds) others told.givens other told.book led told.led;
      };
      hold = told.hold;
      sheets' = sym (held_all blank told.book olds news told.givens told.led told.hold);
      serves = serves lawful olds news told.givens told.book told.led told.hold;
    }

    pub told_all : (k : ℕ) → length olds ≤ k → length news ≡ length olds → Told (take k olds) (take k news) x → Performed plan (calendar.dates c) (order.precedes o) olds news
    told_all k l long told =
        performed
        (subst (λ (os : List Entry). Told os news x) (take_all k olds l)
        (subst (λ (ns : List Entry). Told (take k olds) ns x) (take_all k news (omega arith)) told))
