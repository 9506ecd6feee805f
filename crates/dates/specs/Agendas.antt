-- All dates from one tick up to but without another, in order.
use Rattle.std.specs.Prelude.{◌≡◌, ℕ, ◌-◌, ◌<◌, ◌≤◌, Bool, true, List, map, filter, flat_map, IsTrue, All, AllPairs, Contains}
use Rattle.std.specs.List.{range_with_len}
use Rattle.order.specs.Keys.{by_keys}
use Rattle.kinds.specs.Keys.{keys_by_tick}
use Rattle.kinds.specs.declared.entries.Entry.{Entry}

-- the entries of tick t, by model; computed only where a proof asks for it, since the list is long
unfoldable pub dates_at : (ℕ → ℕ → Bool) → ℕ → List Entry
dates_at dates t = map (λ m. record { tick = t; model = m }) (filter (λ m. dates m t) (range_with_len 1 64))

-- all dates from a up to but without e, by tick, then model
unfoldable pub agenda_of : (ℕ → ℕ → Bool) → ℕ → ℕ → List Entry
agenda_of dates a e = flat_map (dates_at dates) (range_with_len a (e - a))

-- x is a date of the span from a up to but without e
pub record IsDateIn (dates : ℕ → ℕ → Bool) (a e : ℕ) (x : Entry) : Type 0 where
  pub from : a ≤ x.tick
  pub to : x.tick < e
  pub date : IsTrue (dates x.model x.tick)

-- x has the earlier tick, or at equal ticks the lower model
abbrev pub IsBefore : Entry → Entry → Type 0
IsBefore x y = by_keys keys_by_tick x y ≡ true

-- xs has just the things of P, in the order R; where nothing is in that order to itself, each once
pub record IsListOf {X : Type 0} (R : X → X → Type 0) (P : X → Type 0) (xs : List X) : Type 0 where
  pub in_order : AllPairs R xs
  pub only : All P xs
  pub all : (x : X) → P x → Contains xs x

-- xs has just the dates of the span, each once, in order
abbrev pub IsAgenda : (ℕ → ℕ → Bool) → ℕ → ℕ → List Entry → Type 0
IsAgenda dates a e = IsListOf IsBefore (IsDateIn dates a e)
