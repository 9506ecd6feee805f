-- What a check of listed dates knows when it has come some way.
use Rattle.std.proofs.Common.{◌≡◌, ℕ, ◌+◌, ◌-◌, ◌^◌, ◌<◌, ◌≤◌, true, List, length, take, get_or, set, replicate, None, Some, ◌⊎◌, ⊎_elim, inl, inr, arith, refl, sym, ◌∙◌, below_more}
use Rattle.std.proofs.lemmas.Bool.{false_from_ne_true, cond-true, cond-false, cases_eq}
use Rattle.std.proofs.lemmas.Bool.Decides.{nat_tests}
use Rattle.std.proofs.lemmas.List.{get_or-set_same, get_or-set_other, get_or_default, length-set}
use Rattle.set.proofs.Blanks.{get_or_blank}
use Rattle.refusal.specs.Refusals.{number_of, first_below}
use Rattle.refusal.specs.declared.Fault.TheVariants.{Misfit}
use Rattle.refusal.specs.declared.Layer.TheVariants.{Calendar}
use Rattle.refusal.proofs.Firsts.{first_more, first_stays}
use Rattle.kinds.specs.declared.entries.Entry.{Entry}
use Rattle.dates.specs.Dates.{is_model}
use Rattle.dates.specs.Lists.{listed_spacings, fits, no_entry, about_entry, about_entries}
use Rattle.dates.proofs.Lists.{tick_at, model_at, Fits, fits_tells, fits_so}

-- after the first i entries, the last at `past`: `least` has for each model the least tick that its next date may have
pub record Checked (spacings : List ℕ) (entries : List Entry) (least : List ℕ) (past i : ℕ) : Type 0 where
  pub none : first_below (about_entry spacings entries) i ≡ None
  pub size : length least ≡ 64
  pub late : (j : ℕ) → j < i → tick_at entries j ≤ past
  pub last : (past ≡ 0) ⊎ ((j : ℕ) × (j < i) × (tick_at entries j ≡ past))
  pub over : (j q : ℕ) → j < i → model_at entries j ≡ q + 1 → tick_at entries j + listed_spacings spacings (q + 1) ≤ get_or least q 0
  pub tight : (q : ℕ) → (get_or least q 0 ≡ 0) ⊎ ((j : ℕ) × (j < i) × (model_at entries j ≡ q + 1) × (tick_at entries j + listed_spacings spacings (q + 1) ≡ get_or least q 0))

pub checked_none : (spacings : List ℕ) (entries : List Entry) → Checked spacings entries (replicate 64 0) 0 0
checked_none spacings entries = record {
  none = refl;
  size = refl;
  late = λ j lt. absurd (omega arith);
  last = inl refl;
  over = λ j q lt same. absurd (omega arith);
  tight = λ q. inl (get_or_blank 64 q 0);
}

-- what is to be tested of the next entry
pub record May (least : List ℕ) (past : ℕ) (x : Entry) : Type 0 where
  pub order : past ≤ x.tick
  pub early : x.tick < 2 ^ 30
  pub known : is_model x.model ≡ true
  pub far : get_or least (x.model - 1) 0 ≤ x.tick

-- a model and its place in a table
place_of_model : (m : ℕ) → is_model m ≡ true → m - 1 + 1 ≡ m
place_of_model m known = grind (arith, nat_tests)

pub place_below : (m : ℕ) → is_model m ≡ true → m - 1 < 64
place_below m known = grind (arith, nat_tests)

-- a spacing in the table
spacing_at : (spacings : List ℕ) (m : ℕ) → length spacings ≡ 64 → is_model m ≡ true → listed_spacings spacings m ≡ get_or spacings (m - 1) 0
spacing_at spacings m size known =
    let in' : m - 1 < length spacings = omega (arith, place_below m known) in
    cond-true (is_model m) (get_or spacings (m - 1) (2 ^ 30)) (2 ^ 30) known ∙ get_or_default spacings (m - 1) (2 ^ 30) 0 in'

module _ (spacings : List ℕ) (entries : List Entry) (least : List ℕ) (past i : ℕ) (c : Checked spacings entries least past i) where
  May-from_Fits : (x : Entry) → Fits spacings entries i x → May least past x
  May-from_Fits x f = record {
    order = ⊎_elim (λ (e : past ≡ 0). omega arith) (λ (at : (j : ℕ) × (j < i) × (tick_at entries j ≡ past)). omega (arith, f.order at.0 at.1)) c.last;
    early = f.early;
    known = f.known;
    far = ⊎_elim
        (λ (e : get_or least (x.model - 1) 0 ≡ 0). omega arith)
        (λ (at : (j : ℕ) × (j < i) × (model_at entries j ≡ x.model - 1 + 1) × (tick_at entries j + listed_spacings spacings (x.model - 1 + 1) ≡ get_or least (x.model - 1) 0)).
        let same = place_of_model x.model f.known in
        let e = rw same at (at.3) in omega (arith, f.apart at.0 at.1 (at.2 ∙ same)))
        (c.tight (x.model - 1));
  }

  Fits-from_May : (x : Entry) → May least past x → Fits spacings entries i x
  Fits-from_May x h = record {
    early = h.early;
    known = h.known;
    order = λ j lt. omega (arith, c.late j lt, h.order);
    apart = λ j lt same.
        let number = place_of_model x.model h.known in
        let o = rw number at (c.over j (x.model - 1) lt (same ∙ sym number)) in
        omega (arith, h.far);
  }

  module _ (there : i < length entries) where
    abbrev here : Entry
    here = get_or entries i no_entry

    -- where the tests fail, the next entry is the first that is declined
    pub misfit : (May least past here → ⊥) → about_entries spacings entries ≡ Some (record { number = number_of Misfit; layer = Calendar; place = i })
    misfit fails =
        let off = false_from_ne_true (fits spacings (take i entries) here) (λ f. fails (May-from_Fits here (fits_tells spacings entries i here (omega arith) f))) in
        first_stays (about_entry spacings entries) (length entries) i _ there c.none (cond-false _ None _ off)

    module _ (wide : length spacings ≡ 64) (h : May least past here) where
      abbrev slot : ℕ
      slot = here.model - 1

      abbrev more : List ℕ
      more = set least slot (here.tick + get_or spacings slot 0)

      number : slot + 1 ≡ here.model
      number = place_of_model here.model h.known

      more_here : (q : ℕ) → q ≡ slot → get_or more q 0 ≡ here.tick + listed_spacings spacings (q + 1)
      more_here q e = rw (e, number, spacing_at spacings here.model wide h.known) (get_or-set_same least slot _ 0 (omega (arith, place_below here.model h.known, c.size)))

      more_there : (q : ℕ) → (q ≡ slot → ⊥) → get_or more q 0 ≡ get_or least q 0
      more_there q ne = get_or-set_other least slot q _ 0 ne

      over_more : (q : ℕ) (j : ℕ) → j < i + 1 → model_at entries j ≡ q + 1 → tick_at entries j + listed_spacings spacings (q + 1) ≤ get_or more q 0
      over_more q = below_more (λ j. model_at entries j ≡ q + 1 → tick_at entries j + listed_spacings spacings (q + 1) ≤ get_or more q 0) i
          (λ j lt same. ⊎_elim
          (λ (e : q ≡ slot). rw (more_here q e) (omega (arith, c.late j lt, h.order)))
          (λ (ne : q ≡ slot → ⊥). rw (more_there q ne) (c.over j q lt same))
          (cases_eq q slot))
          (λ same. rw (more_here q (omega (arith, number))) (omega arith))

      tight_more : (q : ℕ) → (get_or more q 0 ≡ 0) ⊎ ((j : ℕ) × (j < i + 1) × (model_at entries j ≡ q + 1) × (tick_at entries j + listed_spacings spacings (q + 1) ≡ get_or more q 0))
      tight_more q = ⊎_elim
          (λ (e : q ≡ slot). inr (i, omega arith, omega (arith, number), sym (more_here q e)))
          (λ (ne : q ≡ slot → ⊥).
          ⊎_elim
          (λ (none : get_or least q 0 ≡ 0). inl (more_there q ne ∙ none))
          (λ (at : (j : ℕ) × (j < i) × (model_at entries j ≡ q + 1) × (tick_at entries j + listed_spacings spacings (q + 1) ≡ get_or least q 0)). inr (at.0, omega arith, at.2, at.3 ∙ sym (more_there q ne)))
          (c.tight q))
          (cases_eq q slot)

      -- where they are passed, the check goes on
      pub checked_more : Checked spacings entries more here.tick (i + 1)
      checked_more =
          let far = Fits-from_May here h in
          record {
            none = first_more (about_entry spacings entries) i c.none (cond-true _ None _ (fits_so spacings entries i here (omega arith) far));
            size = length-set least _ _ ∙ c.size;
            late = below_more (λ j. tick_at entries j ≤ here.tick) i far.order (omega arith);
            last = inr (i, omega arith, refl);
            over = λ j q. over_more q j;
            tight = tight_more;
          }
