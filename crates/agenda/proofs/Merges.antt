-- The steps of a merge, over lists: the queue's things are known up to their order.
use Rattle.std.proofs.Common.{◌≡◌, ℕ, ◌+◌, ◌-◌, ◌<◌, ◌≤◌, Bool, true, false, not, cond, List, [], ◌∷◌, ◌++◌, ◌⊎◌, inl, inr, ⊎_elim, refl, sym, ap, subst, get_or, ◌∙◌, ◌==◌, arith}
use Rattle.std.specs.List.{All, Contains, sum_by}
use Rattle.std.specs.List.Sorted.{IsPermutation}
use Rattle.std.proofs.lemmas.Bool.{cases_eq, cases_lt, eq-eqb, ne_eqb, cond-true, cond-false, both_ways, leb-true, and_parts}
use Rattle.std.proofs.lemmas.List.Elements.{All-nil, All-cons, All-head, All-tail, All-push, All-contains, Contains-append_left, Contains-append_right, Contains-append_cases, Contains-push, Contains-push_cases}
use Rattle.std.proofs.lemmas.List.Quantifiers.{all_pairs_push}
use Rattle.std.proofs.lemmas.List.Sorted.{IsPermutation-refl, IsPermutation-sym, All-permutation, Contains-permutation, sum_by_pushed}
use Rattle.order.specs.Laws.{OrderLaws}
use Rattle.order.specs.Keys.{by_keys}
use Rattle.order.proofs.Keyed.{by_keys-OrderLaws}
use Rattle.kinds.specs.Keys.{keys_by_tick}
use Rattle.kinds.specs.declared.entries.Entry.{Entry}
use Rattle.queue.specs.Heaps.{Unpreceded}
use Rattle.queue.specs.Queues.{Stays}
use Rattle.queue.specs.declared.Queue.{Queue}
use Rattle.queue.proofs.Stays.{stays_on}
use Rattle.dates.specs.Dates.{Earliest, CalendarLaws}
use Rattle.dates.specs.Agendas.{IsDateIn, IsBefore}
use Rattle.agenda.specs.Merging.{OneEach, Awaits, Joined, Merged}

pub by_tick-OrderLaws : OrderLaws (λ (x : Entry). x.model) (λ x. x.tick) (by_keys keys_by_tick)
by_tick-OrderLaws = by_keys-OrderLaws keys_by_tick 1

pub stays_itself : (q : Queue Entry) → Stays (by_keys keys_by_tick) 64 q q
stays_itself q = record { room = refl; behind = refl; keeps = λ h. h; lent = refl }

-- what stays from some slot on stays from slot 64 on
pub stays_upto : (n : ℕ) (q r : Queue Entry) → n ≤ 64 → Stays (by_keys keys_by_tick) n q r → Stays (by_keys keys_by_tick) 64 q r
stays_upto n q r le h = stays_on (by_keys keys_by_tick) 64 n q q r le (stays_itself q) h

abbrev NotOf : ℕ → Entry → Type 0
NotOf m q = q.model ≡ m → ⊥

-- 1 if the entry is of model m
abbrev of_model : ℕ → Entry → ℕ
of_model m q = cond (q.model == m) 1 0

counted : (m : ℕ) (q : Entry) → q.model ≡ m → of_model m q ≡ 1
counted m q e = cond-true _ _ _ (eq-eqb _ _ e)

uncounted : (m : ℕ) (q : Entry) → (q.model ≡ m → ⊥) → of_model m q ≡ 0
uncounted m q ne = cond-false _ _ _ (ne_eqb _ _ ne)

count_more : (m : ℕ) (q : Entry) (qs : List Entry) → sum_by (of_model m) (q ∷ qs) ≡ of_model m q + sum_by (of_model m) qs
count_more m q qs = sum_by_pushed (of_model m) q qs (q ∷ qs) (IsPermutation-refl (q ∷ qs))

none_of_model : (m : ℕ) (qs : List Entry) → All (NotOf m) qs → sum_by (of_model m) qs ≡ 0
none_of_model m [] h = refl
none_of_model m (q ∷ qs) h = omega (arith, count_more m q qs, uncounted m q (All-head (NotOf m) q qs h), none_of_model m qs (All-tail (NotOf m) q qs h))

others : (m : ℕ) (qs : List Entry) → sum_by (of_model m) qs ≡ 0 → All (NotOf m) qs
others m [] h = All-nil (NotOf m)
others m (q ∷ qs) h = All-cons (NotOf m) q qs (λ e. omega (arith, count_more m q qs, counted m q e)) (others m qs (omega (arith, count_more m q qs)))

first_in : (x : Entry) (qs rs : List Entry) → IsPermutation (x ∷ qs) rs → Contains rs x
first_in x qs rs p = Contains-permutation (x ∷ qs) rs x p (0, omega arith, refl)

later_in : (x : Entry) (qs rs : List Entry) (q : Entry) → IsPermutation (x ∷ qs) rs → Contains qs q → Contains rs q
later_in x qs rs q p h = Contains-permutation (x ∷ qs) rs q p (Contains-append_right (x ∷ []) qs q h)

only_one : (x q : Entry) → Contains (x ∷ []) q → x ≡ q
only_one x q h = ⊎_elim (λ c. absurd (omega (arith, c.1))) (λ e. e) (Contains-push_cases [] x q h)

pub same_entry : (x y : Entry) → x.model ≡ y.model → x.tick ≡ y.tick → x ≡ y
same_entry x y m t = ap (λ n. record { tick = n; model = x.model }) t ∙ ap (λ n. record { tick = y.tick; model = n }) m

-- one more of a model that none has
one_each_more : (x : Entry) (qs rs : List Entry) → IsPermutation (x ∷ qs) rs → All (NotOf x.model) qs → OneEach qs → OneEach rs
one_each_more x qs rs p ne one m =
    let sum : sum_by (of_model m) rs ≡ of_model m x + sum_by (of_model m) qs = sum_by_pushed (of_model m) x qs rs p in
    ⊎_elim
    (λ (e : x.model ≡ m). omega (arith, sum, counted m x e, none_of_model m qs (λ k d lt f. ne k d lt (f ∙ sym e))))
    (λ f. omega (arith, sum, uncounted m x f, one m))
    (cases_eq x.model m)

-- what was taken had a model of its own, and the others have one each
one_each_less : (x : Entry) (qs rs : List Entry) → IsPermutation (x ∷ qs) rs → OneEach rs → OneEach qs
one_each_less x qs rs p one m = omega (arith, sum_by_pushed (of_model m) x qs rs p, one m)

own_model : (x : Entry) (qs rs : List Entry) → IsPermutation (x ∷ qs) rs → OneEach rs → All (NotOf x.model) qs
own_model x qs rs p one = others x.model qs (omega (arith, sum_by_pushed (of_model x.model) x qs rs p, one x.model, counted x.model x refl))

module _ (dates : ℕ → ℕ → Bool) (m a e : ℕ) (qs rs : List Entry) where
  -- a date of the model, from then on
  joined_awaits : Joined dates m a e qs rs → (y : Entry) → y.model ≡ m → a ≤ y.tick → y.tick < e → dates m y.tick ≡ true → Awaits rs y
  joined_awaits (inl h) y is le lt d = absurd (both_ways _ (h.0 y.tick le lt) d)
  joined_awaits (inr h) y is le lt d =
      let new : Entry = record { tick = h.0; model = m } in
      record {
        next = new;
        waits = first_in new qs rs (h.3);
        of = sym is;
        by = ⊎_elim (λ l. absurd (both_ways _ (h.1.first y.tick le l) d)) (λ g. g) (cases_lt y.tick (h.0));
      }

  joined_keeps : Joined dates m a e qs rs → (y : Entry) → Awaits qs y → Awaits rs y
  joined_keeps (inl h) y w = rw (h.1) w
  joined_keeps (inr h) y w = record { next = w.next; waits = later_in (record { tick = h.0; model = m }) qs rs w.next (h.3) w.waits; of = w.of; by = w.by }

  joined_all : Joined dates m a e qs rs → (P : Entry → Type 0) → ((t : ℕ) → Earliest (dates m) a t → t < e → P (record { tick = t; model = m })) → All P qs → All P rs
  joined_all (inl h) P new all = rw (h.1) all
  joined_all (inr h) P new all = All-permutation P _ rs (h.3) (All-cons P _ qs (new (h.0) (h.1) (h.2)) all)

  joined_one_each : Joined dates m a e qs rs → All (NotOf m) qs → OneEach qs → OneEach rs
  joined_one_each (inl h) ne one = rw (h.1) one
  joined_one_each (inr h) ne one = one_each_more _ qs rs (h.3) ne one

-- the first date in the span of each of the models 1 to n waits in qs
pub record Started (dates : ℕ → ℕ → Bool) (a e n : ℕ) (qs : List Entry) : Type 0 where
  pub only : All (IsDateIn dates a e) qs
  pub known : All (λ (q : Entry). q.model ≤ n) qs
  pub one_each : OneEach qs
  pub rest : (y : Entry) → IsDateIn dates a e y → y.model ≤ n → Awaits qs y

module _ (dates : ℕ → ℕ → Bool) (a e : ℕ) where
  date_of : (m : ℕ) (y : Entry) → y.model ≡ m → IsDateIn dates a e y → dates m y.tick ≡ true
  date_of m y is d = subst (λ k. dates k y.tick ≡ true) is d.date

  -- no model has joined
  pub started_none : {spacings : ℕ → ℕ} → CalendarLaws dates spacings → Started dates a e 0 []
  started_none laws = record {
    only = All-nil (IsDateIn dates a e);
    known = All-nil (λ q. q.model ≤ 0);
    one_each = λ m. omega arith;
    rest = λ y d l. absurd (omega (arith, leb-true 1 y.model (and_parts _ _ (laws.known y.model y.tick d.date)).0));
  }

  -- the first date of model m joins
  pub started_more : (m : ℕ) (qs rs : List Entry) → Started dates a e (m - 1) qs → Joined dates m a e qs rs → 0 < m → Started dates a e m rs
  started_more m qs rs was joins some = record {
    only = joined_all dates m a e qs rs joins (IsDateIn dates a e) (λ t first lt. record { from = first.later; to = lt; date = first.date }) was.only;
    known = joined_all dates m a e qs rs joins (λ q. q.model ≤ m) (λ t first lt. omega arith) (λ k d lt. omega (arith, was.known k d lt));
    one_each = joined_one_each dates m a e qs rs joins (λ k d lt is. omega (arith, was.known k d lt)) was.one_each;
    rest = λ y d l. ⊎_elim
        (λ is. joined_awaits dates m a e qs rs joins y is d.from d.to (date_of m y is d))
        (λ ne. joined_keeps dates m a e qs rs joins y (was.rest y d (omega arith)))
        (cases_eq y.model m);
  }

  -- all have joined, and nothing is given yet
  pub merged_none : {spacings : ℕ → ℕ} → CalendarLaws dates spacings → (qs : List Entry) → Started dates a e 64 qs → Merged dates a e [] qs
  merged_none laws qs was = record {
    in_order = λ i j d lt far. absurd (omega arith);
    given = All-nil (IsDateIn dates a e);
    waiting = was.only;
    behind = λ k d lt. All-nil (λ x. IsBefore x (get_or qs k d));
    one_each = was.one_each;
    rest = λ y d. inr (was.rest y d (leb-true y.model 64 (and_parts _ _ (laws.known y.model y.tick d.date)).1));
  }

  -- what is taken is a date of the span
  pub taken_date : (xs qs left : List Entry) (x : Entry) → Merged dates a e xs qs → IsPermutation (x ∷ left) qs → IsDateIn dates a e x
  taken_date xs qs left x was taken = All-contains (IsDateIn dates a e) qs x was.waiting (first_in x left qs taken)

  -- x is given, and the next date of its model joins
  module _ (xs qs left rs : List Entry) (x : Entry) (was : Merged dates a e xs qs) (taken : IsPermutation (x ∷ left) qs) (first : Unpreceded (by_keys keys_by_tick) qs x) (joins : Joined dates x.model (x.tick + 1) e left rs) where
    date : IsDateIn dates a e x
    date = taken_date xs qs left x was taken

    -- all of xs is before it
    before : All (λ y. IsBefore y x) xs
    before = All-contains (λ q. All (λ y. IsBefore y q) xs) qs x was.behind (first_in x left qs taken)

    -- what all that waited had, all that is left has
    on_left : (P : Entry → Type 0) → All P qs → All P left
    on_left P all = All-tail P x left (All-permutation P qs (x ∷ left) (IsPermutation-sym _ _ taken) all)

    alone : All (NotOf x.model) left
    alone = own_model x left qs taken was.one_each

    -- and all that is left is behind it
    then : All (λ q. IsBefore x q) left
    then k d lt = by_tick-OrderLaws.one_of_two x (get_or left k d) (λ e. alone k d lt (sym e)) ∙ ap not (on_left (λ q. by_keys keys_by_tick q x ≡ false) first k d lt)

    -- a date of its model that is not before x is x, or joins later
    after : (y : Entry) → IsDateIn dates a e y → x.model ≡ y.model → x.tick ≤ y.tick → Contains (xs ++ x ∷ []) y ⊎ Awaits rs y
    after y d is le =
        ⊎_elim
        (λ t. inl (subst (Contains (xs ++ x ∷ [])) (same_entry x y is t) (Contains-push xs x)))
        (λ ne. inr (joined_awaits dates x.model (x.tick + 1) e left rs joins y (sym is) (omega arith) d.to (date_of x.model y (sym is) d)))
        (cases_eq x.tick y.tick)

    awaited : (y : Entry) → IsDateIn dates a e y → Awaits qs y → Contains (xs ++ x ∷ []) y ⊎ Awaits rs y
    awaited y d w =
        ⊎_elim
        (λ c. let is = only_one x w.next c in after y d (ap (λ (q : Entry). q.model) is ∙ w.of) (omega (arith, w.by, ap (λ (q : Entry). q.tick) is)))
        (λ c. inr (joined_keeps dates x.model (x.tick + 1) e left rs joins y (record { next = w.next; waits = c; of = w.of; by = w.by })))
        (Contains-append_cases (x ∷ []) left w.next (Contains-permutation qs (x ∷ left) w.next (IsPermutation-sym _ _ taken) w.waits))

    pub merged_more : Merged dates a e (xs ++ x ∷ []) rs
    merged_more = record {
      in_order = all_pairs_push IsBefore xs x was.in_order before;
      given = All-push (IsDateIn dates a e) xs x was.given date;
      waiting = joined_all dates x.model (x.tick + 1) e left rs joins (IsDateIn dates a e) (λ t next lt. record { from = omega (arith, date.from, next.later); to = lt; date = next.date }) (on_left (IsDateIn dates a e) was.waiting);
      behind = joined_all dates x.model (x.tick + 1) e left rs joins (λ q. All (λ y. IsBefore y q) (xs ++ x ∷ []))
          (λ t next lt. let new : Entry = record { tick = t; model = x.model } in
          let soon : IsBefore x new = by_tick-OrderLaws.earlier_first x new (omega (arith, next.later)) in
          All-push (λ y. IsBefore y new) xs x (λ k d far. by_tick-OrderLaws.carries _ x new (before k d far) soon) soon)
          (λ k d far. All-push (λ y. IsBefore y (get_or left k d)) xs x (on_left (λ q. All (λ y. IsBefore y q) xs) was.behind k d far) (then k d far));
      one_each = joined_one_each dates x.model (x.tick + 1) e left rs joins alone (one_each_less x left qs taken was.one_each);
      rest = λ y d. ⊎_elim (λ c. inl (Contains-append_left xs (x ∷ []) y c)) (awaited y d) (was.rest y d);
    }
