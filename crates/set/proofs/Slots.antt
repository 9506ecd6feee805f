-- Slots that costs and periods are put into, one model after another.
use Rattle.std.proofs.Common.{◌≡◌, ℕ, ◌+◌, ◌<◌, ◌≤◌, List, length, get_or, map, set as put, replicate, refl, sym, ◌∙◌, ⊎_elim, arith}
use Rattle.std.specs.List.{range_with_len, enumerate_from, zip}
use Rattle.std.proofs.lemmas.Bool.{cases_eq, cases_lt}
use Rattle.std.proofs.lemmas.List.{length-set, length-replicate, get_or-set_same, get_or-set_other, get_or_past}
use Rattle.std.proofs.lemmas.List.FromFn.{fill_by_all, length-enumerate_from, get_or-enumerate_from}
use Rattle.std.proofs.lemmas.Slice.Zip.{length-zip, get_or-zip}
use Rattle.std.proofs.lemmas.Grind.{common_steps, get_or_default_zero}
use Rattle.set.specs.Models.{no_model}
use Rattle.set.specs.declared.models.Model.{Model}
use Rattle.set.proofs.Blanks.{get_or_blank}
use Rattle.set.proofs.Faults.{slot_from}

-- the n-th item of a loop over costs and periods is the n-th model
pub item : (costs periods : List ℕ) (n i cost period : ℕ) → length costs ≡ length periods → (n < length (enumerate_from 0 (zip costs periods))) × ((i, (cost, period)) ≡ get_or (enumerate_from 0 (zip costs periods)) n (i, (cost, period))) → (n < length costs) × (i ≡ n) × (cost ≡ get_or costs n 0) × (period ≡ get_or periods n 0)
item costs periods n i cost period level h =
    grind (arith, common_steps, length-enumerate_from, get_or-enumerate_from, length-zip, get_or-zip, get_or_default_zero)

-- and there are as many as costs
pub item_count : (costs periods : List ℕ) → length costs ≡ length periods → length (enumerate_from 0 (zip costs periods)) ≡ length costs
item_count costs periods level = grind (arith, length-enumerate_from, length-zip)

-- the first n models are in their slots, and nothing behind them
pub record Filled (costs periods : List ℕ) (slots n : ℕ) (models : List Model) : Type 0 where
  pub long : length models ≡ slots
  pub front : (i : ℕ) → i < n → get_or models i no_model ≡ slot_from costs periods i
  pub behind : (i : ℕ) → n ≤ i → get_or models i no_model ≡ no_model

module _ (costs periods : List ℕ) (slots : ℕ) where
  pub filled_none : Filled costs periods slots 0 (replicate slots no_model)
  filled_none = record {
    long = length-replicate slots no_model;
    front = λ i h. absurd (omega arith);
    behind = λ i h. get_or_blank slots i no_model;
  }

  pub filled_more : (n : ℕ) (models : List Model) (m : Model) → n < slots → m ≡ slot_from costs periods n → Filled costs periods slots n models → Filled costs periods slots (n + 1) (put models n m)
  filled_more n models m few is so-far = record {
    long = length-set models n m ∙ so-far.long;
    front = λ i h.
        ⊎_elim
        (λ (same : i ≡ n). rw same (get_or-set_same models n m no_model (omega (arith, so-far.long)) ∙ is))
        (λ (ne : i ≡ n → ⊥). get_or-set_other models n i m no_model ne ∙ so-far.front i (omega arith))
        (cases_eq i n);
    behind = λ i h. get_or-set_other models n i m no_model (λ e. omega arith) ∙ so-far.behind i (omega arith);
  }

  pub filled_all : (models : List Model) → length costs ≡ length periods → Filled costs periods slots (length costs) models → models ≡ map (slot_from costs periods) (range_with_len 0 slots)
  filled_all models level all =
      fill_by_all (slot_from costs periods) models slots no_model all.long
      (λ i h.
      ⊎_elim
      (λ (lt : i < length costs). all.front i lt)
      (λ (past : length costs ≤ i). all.behind i past ∙ sym (blank i past))
      (cases_lt i (length costs)))
    where
      blank : (i : ℕ) → length costs ≤ i → slot_from costs periods i ≡ no_model
      blank i past = rw (get_or_past costs i 0 past, get_or_past periods i 0 (omega arith)) refl
