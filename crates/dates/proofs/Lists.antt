-- Dates that are listed keep the laws.
use Rattle.std.proofs.Common.{◌≡◌, ℕ, ◌+◌, ◌-◌, ◌^◌, ◌<◌, ◌≤◌, true, List, length, take, get_or, slice_index, nat_lt, ◌&&◌, ◌==◌, is_none, None, Some, Option, ⊎_elim, arith, refl, ap, sym, ◌∙◌}
use Rattle.std.proofs.lemmas.Bool.{and_parts, and_from, false≢true, ltb-true, lt-ltb, eqb-true, eq-eqb, cond-false, cond_both, cases_eq, cases_lt}
use Rattle.std.proofs.lemmas.Bool.Decides.{nat_tests}
use Rattle.std.proofs.lemmas.List.{length-take-le, take-take, get_or-take, get_or_past, get_or_default}
use Rattle.std.proofs.lemmas.List.Folds.{Any-from_list_any, list_any_at}
use Rattle.std.proofs.lemmas.List.Sums.{AllPass-from_list_all, list_all-from_AllPass}
use Rattle.std.specs.List.{list_all}
use Rattle.refusal.specs.Refusals.{Complaint, first_below}
use Rattle.refusal.proofs.Firsts.{passed, none_below, none_of, first_is, said}
use Rattle.kinds.specs.declared.entries.Entry.{Entry}
use Rattle.dates.specs.Dates.{is_model, CalendarLaws}
use Rattle.dates.specs.Lists.{listed, listed_spacings, follows, fits, no_entry, about_entry, about_entries, accepted}

abbrev pub tick_at : List Entry → ℕ → ℕ
tick_at entries i = (get_or entries i no_entry).tick

abbrev pub model_at : List Entry → ℕ → ℕ
model_at entries i = (get_or entries i no_entry).model

-- x is a date that a calendar may have, and keeps far enough from each of the first i entries
pub record Fits (spacings : List ℕ) (entries : List Entry) (i : ℕ) (x : Entry) : Type 0 where
  pub early : x.tick < 2 ^ 30
  pub known : is_model x.model ≡ true
  pub order : (j : ℕ) → j < i → tick_at entries j ≤ x.tick
  pub apart : (j : ℕ) → j < i → model_at entries j ≡ x.model → tick_at entries j + listed_spacings spacings x.model ≤ x.tick

follows_tells : (spacings : List ℕ) (e x : Entry) → follows spacings e x ≡ true → (e.tick ≤ x.tick) × (e.model ≡ x.model → e.tick + listed_spacings spacings x.model ≤ x.tick)
follows_tells spacings e x h = (grind (arith, nat_tests), λ same. grind (arith, nat_tests))

follows_so : (spacings : List ℕ) (e x : Entry) → e.tick ≤ x.tick → (e.model ≡ x.model → e.tick + listed_spacings spacings x.model ≤ x.tick) → follows spacings e x ≡ true
follows_so spacings e x order apart = ⊎_elim (λ (same : e.model ≡ x.model). let far = apart same in grind (arith, nat_tests)) (λ (other : e.model ≡ x.model → ⊥). grind (arith, nat_tests)) (cases_eq e.model x.model)

module _ (spacings : List ℕ) (entries : List Entry) (i : ℕ) (x : Entry) (there : i ≤ length entries) where
  in_take : (j : ℕ) (d : Entry) → j < length (take i entries) → (j < i) × (get_or (take i entries) j d ≡ get_or entries j no_entry)
  in_take j d lt =
      let short = length-take-le i entries there in
      let in' : j < i = omega arith in (in', get_or_default (take i entries) j d no_entry lt ∙ get_or-take i entries j no_entry in')

  pub fits_tells : fits spacings (take i entries) x ≡ true → Fits spacings entries i x
  fits_tells h =
      let test = nat_lt x.tick (2 ^ 30) in
      let good = and_parts (test && is_model x.model) (list_all (λ e. follows spacings e x) (take i entries)) h in
      let all = AllPass-from_list_all (λ e. follows spacings e x) (take i entries) good.1 in
      let short = length-take-le i entries there in
      let each = λ (j : ℕ) (lt : j < i). follows_tells spacings _ x (rw (get_or-take i entries j no_entry) at (all j no_entry (omega arith))) in
      record {
        early = ltb-true _ _ (and_parts test (is_model x.model) good.0).0;
        known = (and_parts test (is_model x.model) good.0).1;
        order = λ j lt. (each j lt).0;
        apart = λ j lt. (each j lt).1;
      }

  pub fits_so : Fits spacings entries i x → fits spacings (take i entries) x ≡ true
  fits_so h =
      and_from _ _ (and_from _ _ (lt-ltb _ _ h.early) h.known)
      (list_all-from_AllPass _ _
      (λ j d lt. let at = in_take j d lt in rw (at.1) (follows_so spacings _ x (h.order j at.0) (h.apart j at.0))))

-- entry i is the date t of model m
pub record IsDate (entries : List Entry) (m t i : ℕ) : Type 0 where
  pub there : i < length entries
  pub model : model_at entries i ≡ m
  pub tick : tick_at entries i ≡ t

pub place_of_date : (entries : List Entry) (m t : ℕ) → listed entries m t ≡ true → (i : ℕ) × IsDate entries m t i
place_of_date entries m t d =
    let any = Any-from_list_any (λ e. e.model == m && e.tick == t) entries d in
    let both = and_parts _ _ any.4 in
    let same = get_or_default entries any.0 no_entry any.1 any.2 ∙ any.3 in (
      any.0,
      record { there = any.2; model = ap (λ (e : Entry). e.model) same ∙ eqb-true _ _ both.0; tick = ap (λ (e : Entry). e.tick) same ∙ eqb-true _ _ both.1 },
    )

pub date_at : (entries : List Entry) (m t i : ℕ) → IsDate entries m t i → listed entries m t ≡ true
date_at entries m t i d = list_any_at _ entries i no_entry d.there (and_from _ _ (eq-eqb _ _ d.model) (eq-eqb _ _ d.tick))

module _ (spacings : List ℕ) (entries : List Entry) (sound : about_entries spacings entries ≡ None) where
  -- each entry keeps far enough from those before it
  pub each_fits : (i : ℕ) → i < length entries → Fits spacings entries i (get_or entries i no_entry)
  each_fits i lt =
      let here = none_below (about_entry spacings entries) (length entries) i lt sound in
      fits_tells spacings entries i _ (omega arith) (passed _ _ _ here).0

  listed_apart : (i j m a b : ℕ) → a < b → IsDate entries m a i → IsDate entries m b j → a + listed_spacings spacings m ≤ b
  listed_apart i j m a b lt p q =
      ⊎_elim
      (λ (h : i < j).
      let far = (each_fits j q.there).apart i h (p.model ∙ sym q.model) in
      rw (p.tick, q.tick, q.model) at far)
      (λ (h : j ≤ i).
      ⊎_elim
      (λ (e : j ≡ i). absurd (omega (arith, ap (tick_at entries) e)))
      (λ (ne : j ≡ i → ⊥). absurd (omega (arith, (each_fits i p.there).order j (omega arith))))
      (cases_eq j i))
      (cases_lt i j)

pub none_so : (a : Option Complaint) → is_none a ≡ true → a ≡ None
none_so None h = refl
none_so (Some c) h = absurd (false≢true h)

small_spacing : (spacings : List ℕ) → ((i : ℕ) → slice_index spacings i < 2 ^ 32) → (m : ℕ) → listed_spacings spacings m < 2 ^ 32
small_spacing spacings narrow m =
    let here = narrow (m - 1) in
    cond_both (is_model m) (get_or spacings (m - 1) (2 ^ 30)) (2 ^ 30) (λ n. n < 2 ^ 32)
    (λ _. ⊎_elim
    (λ (h : m - 1 < length spacings). rw (get_or_default spacings (m - 1) (2 ^ 30) 0 h) here)
    (λ (h : length spacings ≤ m - 1). rw (get_or_past spacings (m - 1) (2 ^ 30) h) (omega arith))
    (cases_lt (m - 1) (length spacings)))
    (λ _. omega arith)

pub listed-CalendarLaws : (spacings : List ℕ) (entries : List Entry) → ((i : ℕ) → slice_index spacings i < 2 ^ 32) → is_none (about_entries spacings entries) ≡ true → CalendarLaws (listed entries) (listed_spacings spacings)
listed-CalendarLaws spacings entries narrow sound =
    let none = none_so (about_entries spacings entries) sound in
    record {
      apart = λ m a b lt p q.
          let i = place_of_date entries m a p in
          let j = place_of_date entries m b q in
          listed_apart spacings entries none i.0 j.0 m a b lt i.1 j.1;
      early = λ m t d.
          let i = place_of_date entries m t d in
          rw (i.1.tick) at ((each_fits spacings entries none i.0 i.1.there).early);
      known = λ m t d.
          let i = place_of_date entries m t d in
          rw (i.1.model) at ((each_fits spacings entries none i.0 i.1.there).known);
      unknown = λ m h. cond-false (is_model m) _ _ h;
      small = small_spacing spacings narrow;
    }

module _ (spacings : List ℕ) (entries : List Entry) where
  -- a fault is that of the entry at its place
  fault_place : (c : Complaint) → about_entries spacings entries ≡ Some c → (c.place < length entries) × (first_below (about_entry spacings entries) c.place ≡ None)
  fault_place c h =
      let k = first_is (about_entry spacings entries) (length entries) c h in
      let here : k.0 ≡ c.place = ap (λ (x : Complaint). x.place) (said _ _ c k.2) in
      (rw here at (k.1), rw here at (k.3))

  pub fault_cut : (c : Complaint) → about_entries spacings entries ≡ Some c → c.place ≡ length (take c.place entries)
  fault_cut c h = let at = fault_place c h in sym (length-take-le c.place entries (omega arith))

  -- what is said of an entry hangs on those before it alone
  taken : (n i : ℕ) → i < n → about_entry spacings (take n entries) i ≡ about_entry spacings entries i
  taken n i lt = rw (take-take i n entries (omega arith), get_or-take n entries i no_entry lt) refl

  taken_sound : (n : ℕ) → n ≤ length entries → first_below (about_entry spacings entries) n ≡ None → about_entries spacings (take n entries) ≡ None
  taken_sound n h none =
      let short = length-take-le n entries h in
      none_of (about_entry spacings (take n entries)) (length (take n entries))
      (λ i lt. let in' : i < n = omega arith in taken n i in' ∙ none_below (about_entry spacings entries) n i in' none)

  accepted_none : about_entries spacings (accepted spacings entries) ≡ None
  accepted_none = elim (about_entries spacings entries) as (λ (o : Option Complaint). about_entries spacings entries ≡ o → about_entries spacings (accepted spacings entries) ≡ None) [
    | None ↦ λ e. rw e e
    | Some c ↦ λ e. let at = fault_place c e in rw e (taken_sound c.place (omega arith) at.1)
  ] refl

  -- the entries before the first that is declined have no fault
  pub accepted_sound : (found : List Entry) → found ≡ accepted spacings entries → is_none (about_entries spacings found) ≡ true
  accepted_sound found e = ap is_none (ap (about_entries spacings) e ∙ accepted_none)
