-- The first complaint about things in a row.
use Rattle.std.proofs.Common.{◌≡◌, ℕ, zero, suc, ◌+◌, ◌<◌, ◌≤◌, Bool, true, false, ◌⊎◌, Some, None, Option, refl, inl, inr, ⊎_elim, ◌∙◌, add-one, arith}
use Rattle.std.proofs.lemmas.Bool.{cases_order, cases_eq}
use Rattle.refusal.specs.Refusals.{Complaint, check, or_else, first_below}

-- no complaint at all means none from either
pub both_none : (a b : Option Complaint) → or_else a b ≡ None → (a ≡ None) × (b ≡ None)
both_none None b e = (refl, e)
both_none (Some c) b e = let z : ◌≡◌ {A = ℕ} 0 1 = cc in absurd (omega arith)

-- no complaint from a test means that it was passed, and none after it
pub passed : (test : Bool) (c : Complaint) (after : Option Complaint) → check test c after ≡ None → (test ≡ true) × (after ≡ None)
passed true c after e = (refl, e)
passed false c after e = let z : ◌≡◌ {A = ℕ} 0 1 = cc in absurd (omega arith)

-- a test that was not passed has its complaint, whatever comes after
pub failed : (test : Bool) (c x : Complaint) (after : Option Complaint) → check test c None ≡ Some x → check test c after ≡ Some x
failed true c x after e = let z : ◌≡◌ {A = ℕ} 0 1 = cc in absurd (omega arith)
failed false c x after e = e

-- there is a complaint or there is none
pub not_both : (a : Option Complaint) (x : Complaint) → a ≡ Some x → a ≡ None → ⊥
not_both a x some none = let z : ◌≡◌ {A = ℕ} 0 1 = cc in omega arith

-- a complaint is the one that the test has
pub said : (test : Bool) (c x : Complaint) → check test c None ≡ Some x → c ≡ x
said true c x h = absurd (not_both None x h refl)
said false c x h = cc

at_or_below : (i n : ℕ) → i < suc n → (i ≡ n) ⊎ (i < n)
at_or_below i n h = ⊎_elim inl (⊎_elim inr (λ (b : n < i). absurd (omega arith))) (cases_order i n)

module _ (about : ℕ → Option Complaint) where
  -- one more thing with no complaint
  pub first_more : (n : ℕ) → first_below about n ≡ None → about n ≡ None → first_below about (n + 1) ≡ None
  first_more n before here = rw add-one (rw before here)

  -- a complaint stays the first, whatever comes behind
  pub first_stays : (n i : ℕ) (c : Complaint) → i < n → first_below about i ≡ None → about i ≡ Some c → first_below about n ≡ Some c
  first_stays zero i c h before here = absurd (omega arith)
  first_stays (suc n) i c h before here =
      ⊎_elim
      (λ (e : i ≡ n). rw (← e, before) here)
      (λ (lt : i < n). rw (first_stays n i c lt before here) refl)
      (at_or_below i n h)

  -- where there is no complaint, there is none about any of the things
  pub none_below : (n i : ℕ) → i < n → first_below about n ≡ None → about i ≡ None
  none_below zero i h e = absurd (omega arith)
  none_below (suc n) i h e =
      let none = both_none (first_below about n) (about n) e in
      ⊎_elim (λ (same : i ≡ n). rw same none.1) (λ (lt : i < n). none_below n i lt none.0) (at_or_below i n h)

  pub none_upto : (n i : ℕ) → i ≤ n → first_below about n ≡ None → first_below about i ≡ None
  none_upto zero i h e = let z : i ≡ 0 = omega arith in rw z refl
  none_upto (suc n) i h e =
      ⊎_elim
      (λ (same : i ≡ suc n). rw same e)
      (λ (ne : i ≡ suc n → ⊥). none_upto n i (omega arith) (both_none (first_below about n) (about n) e).0)
      (cases_eq i (suc n))

  -- where there is no complaint about any of the things, there is none
  pub none_of : (n : ℕ) → ((i : ℕ) → i < n → about i ≡ None) → first_below about n ≡ None
  none_of zero each = refl
  none_of (suc n) each = rw (none_of n (λ i h. each i (omega arith))) (each n (omega arith))

  -- the first complaint is about one of the things, and there is none about those before it
  pub first_is : (n : ℕ) (c : Complaint) → first_below about n ≡ Some c → (k : ℕ) × (k < n) × (about k ≡ Some c) × (first_below about k ≡ None)
  first_is zero c h = absurd (not_both None c h refl)
  first_is (suc n) c h = elim (first_below about n) as (λ (o : Option Complaint). first_below about n ≡ o → or_else o (about n) ≡ Some c → (k : ℕ) × (k < suc n) × (about k ≡ Some c) × (first_below about k ≡ None)) [
    | None ↦ λ e here. (n, omega arith, here, e)
    | Some d ↦ λ e here. let k = first_is n c (e ∙ here) in (k.0, omega arith, k.2, k.3)
  ] refl h
