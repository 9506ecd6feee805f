-- What a caller knows that performed a list of calls.
use Rattle.std.proofs.Common.{◌≡◌, ◌≢◌, ℕ, zero, suc, ◌+◌, ◌-◌, ◌*◌, ◌<◌, Bool, List, [], ◌∷◌, ◌++◌, length, map, take, Some, Option, refl, sym, ap, subst, ◌∙◌, append-nil, arith, IsSome}
use Rattle.std.specs.Prelude.{slice_index_or, replicate, if◌then◌else◌}
use Rattle.std.specs.Bool.{IsFalse, ◌==◌}
use Rattle.std.proofs.lemmas.Bool.{ne_eqb, eq-eqb}
use Rattle.kinds.specs.declared.runs.Run.{Run}
use Rattle.plan.specs.declared.plans.Plan.{Plan}
use Rattle.book.specs.Racks.{Rack, rack_of}
use Rattle.book.specs.Sheets.{Sheet}
use Rattle.book.specs.Books.{Book, blank, group_with}
use Rattle.book.specs.Buffers.{words_after}
use Rattle.book.specs.Calls.{Call as Asked, Advance, Withdraw, Answer as Given, Leads}
use Rattle.season.specs.declared.call.Call.{Call}
use Rattle.season.specs.declared.call.Call.TheVariants as call
use Rattle.season.specs.declared.answer.Answer.{Answer}
use Rattle.season.specs.declared.answer.Answer.TheVariants as answer
use Rattle.season.specs.declared.entry.Entry.{Entry}
use Rattle.season.specs.Asking.{asked, IsAnswer}
use Rattle.book.specs.Reading.{rows_in}
use Rattle.season.specs.Reading.{sheet_in, sheets_in}
use Rattle.season.specs.Serving.{taken_to, withdrew, InUse, HoldsSheet, Serves}
use Rattle.season.specs.Performing.{asked_by, Holds, Performed, Hold, hold_none, hold_more}
use Rattle.callers.specs.declared.Interval.{Interval}
use Rattle.callers.specs.declared.Kept.{Kept}
use Rattle.callers.specs.Knowing.{sheet_of, sheets_of, EndsAt, IsKept, AreKept, calls_of, Begins, Knows}

-- an advance of group 1 that was performed, and the interval that is kept of it
pub record KeptOf (entry : Entry) (interval : Interval) : Type 0 where
  pub asks : entry.call ≡ call.Advance 1
  pub answer' : entry.answer ≡ Some interval.answer
  pub words' : entry.sheet.now ≡ interval.words

-- four entries that were performed, and what is kept of them
pub record Performs (plan : Plan) (dates : ℕ → ℕ → Bool) (before after : ℕ) (v x y z : Entry) (kept : Kept) : Type 0 where
  pub serves : Serves plan dates (v ∷ x ∷ y ∷ z ∷ [])
  pub asks_first : v.call ≡ call.Withdraw before
  pub withdrawal' : v.answer ≡ Some kept.withdrawal
  pub first' : KeptOf x kept.first
  pub second' : KeptOf y kept.second
  pub asks_last : z.call ≡ call.Withdraw after

module _ (plan : Plan) (dates : ℕ → ℕ → Bool) (before after : ℕ) (v x y z : Entry) (kept : Kept) (p : Performs plan dates before after v x y z kept) where
  abbrev rack : Rack
  rack = rack_of plan

  abbrev entries : List Entry
  entries = v ∷ x ∷ y ∷ z ∷ []

  no_sheet : (e : Entry) (i : ℕ) → e.call ≡ call.Withdraw i → sheet_in e.call e.answer e.sheet.now ≡ []
  no_sheet e i is = rw is refl

  its_sheet : (e : Entry) (interval : Interval) → KeptOf e interval → sheet_in e.call e.answer e.sheet.now ≡ sheet_of interval
  its_sheet e interval is = rw (is.asks, is.answer', is.words') refl

  one : sheet_in x.call x.answer x.sheet.now ≡ sheet_of kept.first
  one = its_sheet x kept.first p.first'

  two : sheet_in y.call y.answer y.sheet.now ≡ sheet_of kept.second
  two = its_sheet y kept.second p.second'

  same : sheets_in entries ≡ sheets_of kept
  same = rw (no_sheet v before p.asks_first, no_sheet z after p.asks_last, one, two) (ap (λ (ss : List Sheet). sheet_of kept.first ++ ss) (append-nil (sheet_of kept.second)))

  -- the withdrawal of another model is none of this one
  kept_by : (i : ℕ) → i ≢ before → (c : Call) → c ≡ call.Withdraw before → (a : Option Answer) → IsFalse (withdrew i c a)
  kept_by i other _ is (Some answer.Withdrew) = rw is (ne_eqb i before other)
  kept_by i other _ is _ = rw is refl

  in_use : (i : ℕ) → Begins plan dates before i → InUse plan dates entries 1 i
  in_use i b = record { model = b.model; kept = rw (kept_by i b.other v.call p.asks_first v.answer) refl }

  still_in_use : (i : ℕ) → Begins plan dates before i → InUse plan dates entries 3 i
  still_in_use i b = record { model = b.model; kept = rw (kept_by i b.other v.call p.asks_first v.answer, p.first'.asks, p.second'.asks) refl }

  -- two advances take the group to the end of the second sheet
  last_end : (ss : List Sheet) (t : ℕ) (s : Sheet) → s.group ≡ 1 → taken_to 1 t (ss ++ s ∷ []) ≡ s.end
  last_end [] t s is = rw is refl
  last_end (s ∷ ss) t last is = last_end ss (if 1 == s.group then s.end else t) last is

  arrives : (t : ℕ) → EndsAt t kept.second → taken_to 1 0 (sheets_in (take 3 entries)) ≡ t
  arrives t (start, first, written, is) =
      let s : Sheet = record { group = 1; start = start; end = t; first = first; rows = rows_in kept.second.words } in
      let reads = two ∙ ap (λ (a : Answer). sheet_in (call.Advance 1) (Some a) kept.second.words) is in
      rw (no_sheet v before p.asks_first, reads) (last_end (sheet_in x.call x.answer x.sheet.now) 0 s refl)

  pub knows : (precedes : Run → Run → Bool) → ((answers : List Given) (end : Book) → Leads rack dates precedes blank (calls_of before after) answers end → AreKept kept answers) → Knows plan dates precedes before after kept
  knows precedes told = record {
    told = told;
    shared = λ t (start, first, written, is) i b divided.
        let s : Sheet = record { group = 1; start = start; end = t; first = first; rows = rows_in kept.first.words } in
        let reads = one ∙ ap (λ (a : Answer). sheet_in (call.Advance 1) (Some a) kept.first.words) is in
        let holds : HoldsSheet plan dates entries 1 s = record { entry = x; there = refl; reads = reads } in
        let begins : start ≡ 0 = (p.serves.joins 1 s holds).0 ∙ ap (λ (ss : List Sheet). taken_to 1 0 (ss ++ [])) (no_sheet v before p.asks_first) in
        let some_period = (plan.set.timed (i - 1) (omega (arith, b.model.first, b.model.last))).0 in
        let share = p.serves.shares 1 s holds i 0 (in_use i b) b.here divided b.date (omega arith) (omega (arith, begins, some_period)) in
        let none : 0 * rack.grain ≡ 0 = omega arith in
        let all : t - 0 ≡ t = omega arith in
        rw (same, begins, none, all) at share;
    whole = λ t ends i b over.
        let now : taken_to (group_with rack i) 0 (sheets_in (take 3 entries)) ≡ t = rw b.here (arrives t ends) in
        let run = p.serves.whole 3 i 0 (still_in_use i b) b.date (omega (arith, now, over)) in
        let none : 0 * rack.grain ≡ 0 = omega arith in
        let due : 0 + rack.period i ≡ rack.period i = omega arith in
        rw (same, none, due) at run;
    apart = λ i x model. rw same at (p.serves.apart i x model);
    out = λ is x. rw same at (p.serves.out 0 before (record { entry = v; there = refl; out = rw (p.asks_first, p.withdrawal', is) (eq-eqb before before refl) }) x (omega arith));
  }

-- what is asked by an entry tells its call
asks_withdrawal : (c : Call) (words : List ℕ) (things : List Run) (i : ℕ) → asked c words things ≡ Withdraw i → c ≡ call.Withdraw i
asks_withdrawal (call.Withdraw j) words things i is = cc
asks_withdrawal (call.Advance g) words things i is = absurd (cc)
asks_withdrawal (call.Standing j) words things i is = absurd (cc)

asks_advance : (c : Call) (words : List ℕ) (things : List Run) → asked c words things ≡ Advance 1 512 64 → c ≡ call.Advance 1
asks_advance (call.Advance g) words things is = cc
asks_advance (call.Withdraw j) words things is = absurd (cc)
asks_advance (call.Standing j) words things is = absurd (cc)

-- what is kept of an entry says what the book answers
says_kept : (old new : Entry) (given : Given) (a : Answer) → Holds old given new → new.answer ≡ Some a → IsAnswer a given
says_kept old new given a met is =
    let some : Some met.answer ≡ Some a = sym met.answer' ∙ is in
    let same : met.answer ≡ a = cc in
    subst (λ (b : Answer). IsAnswer b given) same met.gives.is

is_kept : (old new : Entry) (given : Given) (interval : Interval) → old.sheet.now ≡ replicate 512 0 → Holds old given new → KeptOf new interval → IsKept interval given
is_kept old new given interval blank met is = record { says = says_kept old new given interval.answer met is.answer'; words' = sym is.words' ∙ met.gives.leaves.in_words ∙ ap (words_after given) blank }

-- what is known of entries that were performed
pub known : {plan : Plan} {dates : ℕ → ℕ → Bool} {precedes : Run → Run → Bool} {before after : ℕ} {n o p q : Entry} {news : List Entry} {kept : Kept} (d : Entry)
    → o.sheet.now ≡ replicate 512 0 → p.sheet.now ≡ replicate 512 0
    → Performed plan dates precedes (n ∷ o ∷ p ∷ q ∷ []) news → map asked_by (n ∷ o ∷ p ∷ q ∷ []) ≡ calls_of before after
    → (slice_index_or news 0 d).answer ≡ Some kept.withdrawal
    → (slice_index_or news 1 d).answer ≡ Some kept.first.answer → (slice_index_or news 1 d).sheet.now ≡ kept.first.words
    → (slice_index_or news 2 d).answer ≡ Some kept.second.answer → (slice_index_or news 2 d).sheet.now ≡ kept.second.words
    → (slice_index_or news 3 d).answer ≡ Some kept.last_withdrawal
    → Knows plan dates precedes before after kept
known {plan} {dates} {precedes} {before} {after} {n} {o} {p} {q} {news} {kept} d first_blank second_blank performed asks = by_hold performed.hold performed.serves performed.answered.only
  where
    by_hold : {givens : List Given} {news : List Entry} {end : Book} → Hold (n ∷ o ∷ p ∷ q ∷ []) givens news → Serves plan dates news
        → ((answers : List Given) (other : Book) → Leads (rack_of plan) dates precedes blank (map asked_by (n ∷ o ∷ p ∷ q ∷ [])) answers other → (answers ≡ givens) × (other ≡ end))
        → (slice_index_or news 0 d).answer ≡ Some kept.withdrawal
        → (slice_index_or news 1 d).answer ≡ Some kept.first.answer → (slice_index_or news 1 d).sheet.now ≡ kept.first.words
        → (slice_index_or news 2 d).answer ≡ Some kept.second.answer → (slice_index_or news 2 d).sheet.now ≡ kept.second.words
        → (slice_index_or news 3 d).answer ≡ Some kept.last_withdrawal
        → Knows plan dates precedes before after kept
    by_hold (hold_more _ v _ _ _ _ e (hold_more _ x _ _ _ _ f (hold_more _ y _ _ _ _ g (hold_more _ z _ _ _ _ h hold_none)))) serves only withdrawal' answer' words' later_answer later_words last_withdrawal' =
        let first_asks : asked_by n ≡ Withdraw before = cc in
        let second_asks : asked_by o ≡ Advance 1 512 64 = cc in
        let third_asks : asked_by p ≡ Advance 1 512 64 = cc in
        let last_asks : asked_by q ≡ Withdraw after = cc in
        let first' : KeptOf x kept.first = record { asks = f.call' ∙ asks_advance o.call _ _ second_asks; answer' = answer'; words' = words' } in
        let second' : KeptOf y kept.second = record { asks = g.call' ∙ asks_advance p.call _ _ third_asks; answer' = later_answer; words' = later_words } in
        let all : Performs plan dates before after v x y z kept = record {
          serves = serves;
          asks_first = e.call' ∙ asks_withdrawal n.call _ _ before first_asks;
          withdrawal' = withdrawal';
          first' = first';
          second' = second';
          asks_last = h.call' ∙ asks_withdrawal q.call _ _ after last_asks;
        } in
        knows plan dates before after v x y z kept all precedes (λ answers end led.
        let same = (only answers end (subst (λ (cs : List Asked). Leads (rack_of plan) dates precedes blank cs answers end) (sym asks) led)).0 in
        subst (AreKept kept) (sym same) (says_kept n v _ _ e withdrawal', is_kept o x _ _ first_blank f first', is_kept p y _ _ second_blank g second', says_kept q z _ _ h last_withdrawal'))
