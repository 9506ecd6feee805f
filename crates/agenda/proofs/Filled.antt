-- What a merge leaves in the table is the agenda, or as much of it as there is room for.
use Rattle.std.proofs.Common.{◌≡◌, ℕ, ◌<◌, Bool, true, false, Some, None, List, [], ◌∷◌, length, take, drop, inl, inr, ⊎_elim, refl, sym, ap, ◌∙◌, subst, arith}
use Rattle.std.specs.List.{All, Contains}
use Rattle.std.proofs.lemmas.Bool.{both_ways, cases_eq, cases_lt, le-leb, lt-leb, cond-true, cond-false}
use Rattle.std.proofs.lemmas.List.{take_all, drop_all, length-take-le, take-append-drop, append-nil}
use Rattle.std.proofs.lemmas.List.Elements.{All-contains}
use Rattle.refusal.specs.Refusals.{number_of}
use Rattle.refusal.specs.declared.Fault.TheVariants.{Crowded}
use Rattle.refusal.specs.declared.Layer.TheVariants.{Agenda}
use Rattle.kinds.specs.declared.entries.Entry.{Entry}
use Rattle.dates.specs.Dates.{CalendarLaws}
use Rattle.dates.specs.Agendas.{agenda_of, IsDateIn, IsBefore, IsAgenda}
use Rattle.dates.proofs.Agendas.{Begins, begins_so, same_agenda, goes_on}
use Rattle.agenda.specs.Filling.{about_table, filled}
use Rattle.agenda.specs.Merging.{Awaits, Merged, Given}
use Rattle.agenda.proofs.Merges.{by_tick-OrderLaws, same_entry}

-- what is not empty has something that waits
pub some_wait : (empty : Bool) (n : ℕ) → empty ≡ false → (n ≡ 0 → empty ≡ true) → 0 < n
some_wait empty n not' when = ⊎_elim (λ e. absurd (both_ways empty not' (when e))) (λ ne. omega arith) (cases_eq n 0)

module _ {dates : ℕ → ℕ → Bool} {spacings : ℕ → ℕ} (laws : CalendarLaws dates spacings) (a e : ℕ) where
  module _ (xs qs : List Entry) (m : Merged dates a e xs qs) where
    -- all that is given is before what waits, and so before y
    before : (y : Entry) → Awaits qs y → All (λ x. IsBefore x y) xs
    before y w =
        let given : All (λ x. IsBefore x w.next) xs = All-contains (λ q. All (λ x. IsBefore x q) xs) qs w.next m.behind w.waits in
        ⊎_elim
        (λ t. subst (λ z. All (λ x. IsBefore x z) xs) (same_entry w.next y w.of t) given)
        (λ ne k d lt. by_tick-OrderLaws.carries _ w.next y (given k d lt) (by_tick-OrderLaws.earlier_first w.next y (omega (arith, w.by))))
        (cases_eq w.next.tick y.tick)

    begins : Begins dates a e xs
    begins = record { in_order = m.in_order; only = m.given; rest = λ y d. ⊎_elim inl (λ w. inr (before y w)) (m.rest y d) }

    all_given : length qs ≡ 0 → IsAgenda dates a e xs
    all_given none = record {
      in_order = m.in_order;
      only = m.given;
      all = λ y d. ⊎_elim (λ c. c) (λ w. absurd (omega (arith, w.waits.1))) (m.rest y d);
    }

  more_waits : (xs qs : List Entry) → Merged dates a e xs qs → 0 < length qs → length xs < length (agenda_of dates a e)
  more_waits xs [] m some = absurd (omega arith)
  more_waits xs (q ∷ qs) m some =
      let here : Contains (q ∷ qs) q = (0, omega arith, refl) in
      goes_on laws a e xs q (begins xs (q ∷ qs) m) (All-contains (IsDateIn dates a e) (q ∷ qs) q m.waiting here)
      (λ c. let itself = All-contains (λ x. IsBefore x q) xs q (All-contains (λ q. All (λ x. IsBefore x q) xs) (q ∷ qs) q m.behind here) c in cc (itself, by_tick-OrderLaws.never_itself q))

  module _ (old new qs : List Entry) (n : ℕ) (h : Given dates a e n old new qs) where
    given : length (take n new) ≡ n
    given = length-take-le n new (omega (arith, h.bound, h.as_long))

    -- none waits
    module _ (none : length qs ≡ 0) where
      all : agenda_of dates a e ≡ take n new
      all = same_agenda laws a e (take n new) (all_given (take n new) qs h.merges none)

      pub all_counted : n ≡ length (agenda_of dates a e)
      all_counted = sym (ap length all ∙ given)

      pub all_fit : about_table (length old) (length (agenda_of dates a e)) ≡ None
      all_fit = cond-true _ _ _ (le-leb (length (agenda_of dates a e)) (length old) (omega (arith, all_counted, h.bound)))

      pub all_filled : new ≡ filled (agenda_of dates a e) old
      all_filled =
          let front : take (length old) (agenda_of dates a e) ≡ take n new = take_all (length old) (agenda_of dates a e) (omega (arith, all_counted, h.bound)) ∙ all in
          let back : drop (length (agenda_of dates a e)) old ≡ drop n new = ap (λ k. drop k old) (sym all_counted) ∙ sym h.behind in
          cc (front, back, take-append-drop n new)

    -- some wait, and the table is full
    module _ (some : 0 < length qs) where
      full : n ≡ length old
      full = ⊎_elim (λ l. absurd (omega (arith, h.ends l))) (λ g. omega (arith, h.bound)) (cases_lt n (length old))

      pub crowded : about_table (length old) (length (agenda_of dates a e)) ≡ Some (record { number = number_of Crowded; layer = Agenda; place = length new })
      crowded = cond-false _ _ _ (lt-leb (length (agenda_of dates a e)) (length old) (omega (arith, more_waits (take n new) qs h.merges some, given, full))) ∙ ap (λ k. Some (record { number = number_of Crowded; layer = Agenda; place = k })) (sym h.as_long)

      pub first_filled : new ≡ filled (agenda_of dates a e) old
      first_filled =
          let whole : take n new ≡ new = take_all n new (omega (arith, full, h.as_long)) in
          let room : length (take n new) ≡ length old = given ∙ full in
          let front : take (length old) (agenda_of dates a e) ≡ new = ap (λ k. take k (agenda_of dates a e)) (sym room) ∙ begins_so laws a e (take n new) (begins (take n new) qs h.merges) ∙ whole in
          let back : drop (length (agenda_of dates a e)) old ≡ [] = drop_all (length (agenda_of dates a e)) old (omega (arith, more_waits (take n new) qs h.merges some, given, full)) in
          cc (front, back, append-nil new)
