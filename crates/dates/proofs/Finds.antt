-- Where the earliest listed date stands: ticks do not fall, so halving finds the first entry that is not too early.
use Rattle.std.proofs.Common.{◌≡◌, ℕ, ◌+◌, ◌-◌, ◌<◌, ◌≤◌, true, false, List, length, drop, get_or, nat_lt, None, Some, Option, ⊎_elim, arith, ap, sym, ◌∙◌}
use Rattle.std.specs.Option.{MatchOption, IfSome, IfNone, option_map}
use Rattle.std.specs.List.{AllWithin, HoldsAt}
use Rattle.std.specs.List.Sorted.{IsNonDecreasingBy, IsPartitionPoint}
use Rattle.std.proofs.lemmas.Bool.{false_from_ne_true, ltb-true, ltb-false, cases_lt, cases_eq}
use Rattle.std.proofs.lemmas.List.{get_or-drop, length-drop}
use Rattle.std.proofs.lemmas.List.Sorted.{IsNonDecreasingBy-from_default}
use Rattle.kinds.specs.declared.entries.Entry.{Entry}
use Rattle.dates.specs.Dates.{Earliest, NoneFrom}
use Rattle.dates.specs.Lists.{listed, no_entry, about_entries}
use Rattle.dates.proofs.Lists.{tick_at, IsDate, place_of_date, date_at, each_fits}

module _ (spacings : List ℕ) (entries : List Entry) (sound : about_entries spacings entries ≡ None) where
  order : (i j : ℕ) → i ≤ j → j < length entries → tick_at entries i ≤ tick_at entries j
  order i j le lt =
      ⊎_elim
      (λ (same : i ≡ j). omega (arith, ap (tick_at entries) same))
      (λ (ne : i ≡ j → ⊥). (each_fits spacings entries sound j lt).order i (omega arith))
      (cases_eq i j)

  pub rising : IsNonDecreasingBy (λ (e : Entry). e.tick) entries
  rising = IsNonDecreasingBy-from_default (λ (e : Entry). e.tick) entries no_entry order

  -- the entries before `start` are before `from`, and the others are not
  module _ (m from start : ℕ) (point : IsPartitionPoint (λ (e : Entry). nat_lt e.tick from ≡ true) (λ (e : Entry). nat_lt e.tick from ≡ false) entries start) where
    -- of the entries from `start` on, the first k are of other models
    abbrev Others : ℕ → Type 0
    Others k = AllWithin (λ (e : Entry). e.model ≡ m → ⊥) (drop start entries) 0 k

    -- a date at or after `from` stands behind them
    behind : (k t i : ℕ) → Others k → from ≤ t → IsDate entries m t i → start + k ≤ i
    behind k t i others ge d = ⊎_elim
        (λ (lt : i < start). absurd (omega (arith, ltb-true _ _ (point.0 i no_entry (omega arith) lt), d.tick)))
        (λ (le : start ≤ i). ⊎_elim
        (λ (lt : i - start < k).
        let e : start + (i - start) ≡ i = omega arith in
        let here = get_or-drop start entries (i - start) no_entry ∙ ap (λ k. get_or entries k no_entry) e in
        absurd (others (i - start) no_entry (omega arith) lt (ap (λ (x : Entry). x.model) here ∙ d.model)))
        (λ (ge : k ≤ i - start). omega arith)
        (cases_lt (i - start) k))
        (cases_lt i start)

    none_left : Others (length (drop start entries)) → NoneFrom (listed entries m) from
    none_left others t ge = false_from_ne_true (listed entries m t) (λ date.
        let i = place_of_date entries m t date in
        let last = behind _ t i.0 others ge i.1 in
        omega (arith, length-drop start entries, i.1.there))

    first_left : (x : Entry) (k : ℕ) → x.model ≡ m → k < length (drop start entries) → HoldsAt (λ y. y ≡ x) (drop start entries) k → Others k → Earliest (listed entries m) from x.tick
    first_left x k of lt at others =
        let here = sym (get_or-drop start entries k no_entry) ∙ at no_entry in
        let in' : start + k < length entries = omega (arith, length-drop start entries) in
        let tick = ap (λ (y : Entry). y.tick) here in
        record {
          later = omega (arith, ltb-false _ _ (point.1 (start + k) no_entry (omega arith) in'));
          date = date_at entries m x.tick (start + k) (record { there = in'; model = ap (λ (y : Entry). y.model) here ∙ of; tick = tick });
          first = λ t ge lt. false_from_ne_true (listed entries m t) (λ date.
              let i = place_of_date entries m t date in
              omega (arith, order (start + k) i.0 (behind k t i.0 others ge i.1) i.1.there, i.1.tick));
        }

    -- what a search of the entries from `start` on gives, by the entry x or none
    pub found_first : {X : Type 0} (entry : X → Entry) (r : Option X) → MatchOption r (Others (length (drop start entries))) (λ x. ((entry x).model ≡ m) × (k : ℕ) × (k < length (drop start entries)) × HoldsAt (λ y. y ≡ entry x) (drop start entries) k × Others k) → (s : Option ℕ) → s ≡ option_map (λ x. (entry x).tick) r → IfSome s (Earliest (listed entries m) from) × IfNone s (NoneFrom (listed entries m) from)
    found_first entry None others s e = rw e (tt, none_left others)
    found_first entry (Some x) at s e = rw e (first_left (entry x) at.1 at.0 at.2 at.3 at.4, tt)
