-- The agenda of a span is in order, has just its dates, and no other list does.
use Rattle.std.proofs.Common.{◌≡◌, ℕ, ◌+◌, ◌-◌, ◌<◌, ◌≤◌, zero, suc, Bool, true, false, cond, List, ◌∷◌, map, length, take, ◌⊎◌, inl, inr, refl, sym, ◌∙◌, subst, arith}
use Rattle.std.proofs.Math.Logic.{⊎_map}
use Rattle.std.specs.Bool.{IsTrue}
use Rattle.std.specs.List.{All, AllPairs, Contains, filter, flat_map, range_with_len}
use Rattle.std.proofs.lemmas.Bool.Decides.{nat_tests}
use Rattle.std.proofs.lemmas.Bool.{cases_lt, cases_eq}
use Rattle.std.proofs.lemmas.List.{take_all}
use Rattle.std.proofs.lemmas.List.Elements.{All-weaker}
use Rattle.order.proofs.Keyed.{by_keys-OrderLaws}
use Rattle.kinds.specs.Keys.{keys_by_tick}
use Rattle.kinds.specs.declared.entries.Entry.{Entry}
use Rattle.dates.specs.Dates.{CalendarLaws, is_model}
use Rattle.dates.specs.Agendas.{agenda_of, dates_at, IsDateIn, IsBefore, IsListOf, IsAgenda}
use Rattle.dates.proofs.InOrder.{IsListOf-nil, IsListOf-cons, IsListOf-append, begins, same}

-- xs is how an agenda begins: each date of the span is in it or behind all of it
pub record Begins (dates : ℕ → ℕ → Bool) (a e : ℕ) (xs : List Entry) : Type 0 where
  pub in_order : AllPairs IsBefore xs
  pub only : All (IsDateIn dates a e) xs
  pub rest : (y : Entry) → IsDateIn dates a e y → Contains xs y ⊎ All (λ x. IsBefore x y) xs

apart : (x y : Entry) → IsBefore x y → IsBefore y x → ⊥
apart x y p q = let laws = by_keys-OrderLaws keys_by_tick 1 in cc (laws.never_itself x, laws.carries x y x p q)

lower_model : (x y : Entry) → x.tick ≡ y.tick → x.model < y.model → IsBefore x y
lower_model x y e l = grind (arith, nat_tests)

module _ (dates : ℕ → ℕ → Bool) where
  abbrev at : ℕ → ℕ → Entry
  at t m = record { tick = t; model = m }

  -- x is a date at t of a model from m up to but without e
  record IsDateAt (t m e : ℕ) (x : Entry) : Type 0 where
    now : x.tick ≡ t
    from : m ≤ x.model
    to : x.model < e
    date : IsTrue (dates x.model x.tick)

  later : (t m e : ℕ) (x : Entry) → IsDateAt t (m + 1) e x → IsDateAt t m e x
  later t m e x p = record { now = p.now; from = omega (arith, p.from); to = p.to; date = p.date }

  at_later : (t m e : ℕ) (x : Entry) → IsDateAt t m e x → (m ≡ x.model → ⊥) → IsDateAt t (m + 1) e x
  at_later t m e x p f = record { now = p.now; from = omega (arith, p.from); to = p.to; date = p.date }

  -- one model more, in front
  pick : (t m e : ℕ) (ms : List ℕ) (b : Bool) → dates m t ≡ b → m < e → IsListOf IsBefore (IsDateAt t (m + 1) e) (map (at t) ms) → IsListOf IsBefore (IsDateAt t m e) (map (at t) (cond b (m ∷ ms) ms))
  pick t m e ms true d l h = IsListOf-cons IsBefore (IsDateAt t (m + 1) e) (IsDateAt t m e) (at t m) (map (at t) ms) h
      (record { now = refl; from = omega arith; to = l; date = d })
      (λ x p. lower_model (at t m) x (sym p.now) (omega (arith, p.from)))
      (later t m e)
      (λ x p. ⊎_map (λ f. λ i. record { tick = sym p.now i; model = f i }) (λ f. at_later t m e x p f) (cases_eq m x.model))
  pick t m e ms false d l h = record {
    in_order = h.in_order;
    only = All-weaker (IsDateAt t (m + 1) e) (IsDateAt t m e) (later t m e) (map (at t) ms) h.only;
    all = λ x p. h.all x (at_later t m e x p (λ f. cc (p.now, p.date)));
  }

  -- written out as in dates_at
  models : (n m e t : ℕ) → e - m ≡ n → IsListOf IsBefore (IsDateAt t m e) (map (λ m. record { tick = t; model = m }) (filter (λ m. dates m t) (range_with_len m n)))
  models zero m e t l = IsListOf-nil IsBefore _ (λ x d. omega (arith, d.from, d.to))
  models (suc n) m e t l = pick t m e _ (dates m t) refl (omega arith) (models n (m + 1) e t (omega arith))

  models_at : (t : ℕ) → IsListOf IsBefore (IsDateAt t 1 65) (dates_at dates t)
  unfolding dates_at
  models_at t = models 64 1 65 t refl

  ticks : ((m t : ℕ) → IsTrue (dates m t) → IsTrue (is_model m)) → (n a e : ℕ) → e - a ≡ n → IsListOf IsBefore (IsDateIn dates a e) (flat_map (dates_at dates) (range_with_len a n))
  ticks known zero a e l = IsListOf-nil IsBefore _ (λ x d. omega (arith, d.from, d.to))
  ticks known (suc n) a e l = IsListOf-append IsBefore (IsDateAt a 1 65) (IsDateIn dates (a + 1) e) (IsDateIn dates a e) (dates_at dates a) _ (models_at a) (ticks known n (a + 1) e (omega arith))
      (λ x y p q. (by_keys-OrderLaws keys_by_tick 1).earlier_first x y (omega (arith, p.now, q.from)))
      (λ x p. record { from = omega (arith, p.now); to = omega (arith, p.now); date = p.date })
      (λ x q. record { from = omega (arith, q.from); to = q.to; date = q.date })
      (λ x s. let k : IsTrue (is_model x.model) = known x.model x.tick s.date in
      ⊎_map (λ f. record { now = f; from = grind (arith, nat_tests); to = grind (arith, nat_tests); date = s.date }) (λ f. record { from = omega (arith, s.from); to = s.to; date = s.date }) (cases_eq x.tick a))

module _ {dates : ℕ → ℕ → Bool} {spacings : ℕ → ℕ} (laws : CalendarLaws dates spacings) (a e : ℕ) where
  pub agenda_of-IsAgenda : IsAgenda dates a e (agenda_of dates a e)
  unfolding agenda_of
  agenda_of-IsAgenda = ticks dates laws.known (e - a) a e refl

  pub begins_so : (xs : List Entry) → Begins dates a e xs → take (length xs) (agenda_of dates a e) ≡ xs
  begins_so xs h = begins IsBefore apart (IsDateIn dates a e) xs (agenda_of dates a e) h.in_order h.only h.rest agenda_of-IsAgenda

  pub same_agenda : (xs : List Entry) → IsAgenda dates a e xs → agenda_of dates a e ≡ xs
  same_agenda xs h = same IsBefore apart (IsDateIn dates a e) (agenda_of dates a e) xs agenda_of-IsAgenda h

  pub goes_on : (xs : List Entry) (y : Entry) → Begins dates a e xs → IsDateIn dates a e y → (Contains xs y → ⊥) → length xs < length (agenda_of dates a e)
  goes_on xs y h d out = elim (cases_lt (length xs) (length (agenda_of dates a e))) [
    | inl l ↦ l
    | inr l ↦ let whole : agenda_of dates a e ≡ xs = sym (take_all (length xs) (agenda_of dates a e) l) ∙ begins_so xs h in
        absurd (out (subst (λ (zs : List Entry). Contains zs y) whole (agenda_of-IsAgenda.all y d)))
  ]
