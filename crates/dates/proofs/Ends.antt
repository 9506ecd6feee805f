-- The end of each model's dates: one more than the last.
use Rattle.std.proofs.Common.{◌≡◌, ℕ, ◌+◌, ◌-◌, ◌^◌, ◌<◌, ◌≤◌, true, List, length, take, get_or, set, ⊎_elim, arith, ◌∙◌}
use Rattle.std.specs.List.{All}
use Rattle.std.proofs.lemmas.Bool.{false_from_ne_true, cond-true, cond_both, cases_eq}
use Rattle.std.proofs.lemmas.List.{get_or-set_same, get_or-set_other}
use Rattle.std.proofs.lemmas.List.Elements.{All-weaker, All-more, All-from_get_or}
use Rattle.kinds.specs.declared.entries.Entry.{Entry}
use Rattle.dates.specs.Dates.{is_model, NoneFrom}
use Rattle.dates.specs.Tables.{at_model}
use Rattle.dates.specs.Lists.{listed, no_entry, accepted, Ended}
use Rattle.dates.proofs.Lists.{place_of_date, each_fits, none_so, accepted_sound}
use Rattle.dates.proofs.Checks.{place_below}

-- a slot is raised
module _ (ends : List ℕ) (slot end : ℕ) (in' : slot < length ends) (higher : get_or ends slot 0 ≤ end) where
  raised_at : (q : ℕ) → get_or ends q 0 ≤ get_or (set ends slot end) q 0
  raised_at q = ⊎_elim
      (λ (e : q ≡ slot). rw (e, get_or-set_same ends slot end 0 in') higher)
      (λ (ne : q ≡ slot → ⊥). rw (get_or-set_other ends slot q end 0 ne) (omega arith))
      (cases_eq q slot)

  raised : (m : ℕ) → at_model 0 ends m ≤ at_model 0 (set ends slot end) m
  raised m = cond_both (is_model m) (get_or ends (m - 1) 0) 0 (λ x. x ≤ at_model 0 (set ends slot end) m)
      (λ known. rw (cond-true (is_model m) (get_or (set ends slot end) (m - 1) 0) 0 known) (raised_at (m - 1)))
      (λ _. omega arith)

-- one more entry
pub ended_more : (ends : List ℕ) (entries : List Entry) (i end : ℕ) → i < length entries → length ends ≡ 64 → is_model (get_or entries i no_entry).model ≡ true → get_or ends ((get_or entries i no_entry).model - 1) 0 ≤ end → (get_or entries i no_entry).tick < end → Ended ends (take i entries) → Ended (set ends ((get_or entries i no_entry).model - 1) end) (take (i + 1) entries)
ended_more ends entries i end lt size known higher late before =
    let x = get_or entries i no_entry in
    let slot = x.model - 1 in
    let in' : slot < length ends = omega (arith, place_below x.model known) in
    let here = cond-true (is_model x.model) (get_or (set ends slot end) slot 0) 0 known ∙ get_or-set_same ends slot end 0 in' in
    All-more (λ e. e.tick < at_model 0 (set ends slot end) e.model) entries i no_entry lt
    (All-weaker (λ (e : Entry). e.tick < at_model 0 ends e.model) (λ e. e.tick < at_model 0 (set ends slot end) e.model) (λ e below. omega (arith, below, raised ends slot end in' higher e.model)) (take i entries) before)
    (rw here late)

pub accepted_dated : (spacings : List ℕ) (entries found : List Entry) → found ≡ accepted spacings entries → All (λ (e : Entry). (e.tick < 2 ^ 30) × (is_model e.model ≡ true)) found
accepted_dated spacings entries found e =
    let sound = none_so _ (accepted_sound spacings entries found e) in
    All-from_get_or (λ (e : Entry). (e.tick < 2 ^ 30) × (is_model e.model ≡ true)) found no_entry (λ i lt. let f = each_fits spacings found sound i lt in (f.early, f.known))

-- no date is at or behind the end
pub none_past : (ends : List ℕ) (entries : List Entry) (m from : ℕ) → Ended ends entries → at_model 0 ends m ≤ from → NoneFrom (listed entries m) from
none_past ends entries m from ended past t ge = false_from_ne_true (listed entries m t) (λ date.
    let i = place_of_date entries m t date in
    let below = ended i.0 no_entry i.1.there in
    let e = rw (i.1.model, i.1.tick) at below in
    omega arith)
