-- What pieces put on one worker.
use Rattle.std.proofs.Common.{◌≡◌, ℕ, zero, suc, ◌+◌, ◌<◌, ◌≤◌, List, length, take, refl, ap, ◌∙◌, add-one, arith}
use Rattle.std.proofs.lemmas.Bool.Decides.{nat_tests}
use Rattle.plan.specs.declared.pieces.Pieces.{Pieces}
use Rattle.plan.specs.declared.pieces.Pieces.TheVariants.{Whole, Divided}
use Rattle.placement.proofs.Rises.{rises}
use Rattle.std.proofs.lemmas.List.{length-take-le, get_or-take}
use Rattle.plan.specs.Shares.{nowhere, pieces_at, on_worker, carried}

pub whole_here : (q w : ℕ) → on_worker q (Whole q w) ≡ w
whole_here q w = grind (arith, nat_tests)

pub whole_else : (p q w : ℕ) → (q ≡ p → ⊥) → on_worker p (Whole q w) ≡ 0
whole_else p q w h = grind (arith, nat_tests)

pub split_first : (q a b : ℕ) → on_worker q (Divided q a b) ≡ a
split_first q a b = grind (arith, nat_tests)

pub split_second : (q a b : ℕ) → on_worker (q + 1) (Divided q a b) ≡ b
split_second q a b = grind (arith, nat_tests)

pub split_else : (p q a b : ℕ) → (q ≡ p → ⊥) → (q + 1 ≡ p → ⊥) → on_worker p (Divided q a b) ≡ 0
split_else p q a b h k = grind (arith, nat_tests)

module _ (pieces : ℕ → Pieces) (p : ℕ) where
  -- more models carry more
  pub carried_rises : (n i : ℕ) → i ≤ n → carried pieces p i ≤ carried pieces p n
  carried_rises = rises (carried pieces p) (λ n. omega arith)

  pub carried_more : (i : ℕ) → carried pieces p (i + 1) ≡ carried pieces p i + on_worker p (pieces i)
  carried_more i = rw (add-one i) refl

-- models in the same places carry the same
pub carried_same : (f g : ℕ → Pieces) (p n : ℕ) → ((i : ℕ) → i < n → f i ≡ g i) → carried f p n ≡ carried g p n
carried_same f g p zero same = refl
carried_same f g p (suc n) same =
    let before = carried_same f g p n (λ i h. same i (omega arith)) in
    let here = ap (on_worker p) (same n (omega arith)) in
    omega arith

-- the first n models, as a list of their own
module _ (ps : List Pieces) (n : ℕ) where
  pub pieces_in_front : (i : ℕ) → i < n → pieces_at (take n ps) i ≡ pieces_at ps i
  pieces_in_front i h = get_or-take n ps i nowhere h

  pub carried_in_front : (p : ℕ) → n ≤ length ps → carried (pieces_at (take n ps)) p (length (take n ps)) ≡ carried (pieces_at ps) p n
  carried_in_front p h = ap (carried (pieces_at (take n ps)) p) (length-take-le n ps h) ∙ carried_same (pieces_at (take n ps)) (pieces_at ps) p n pieces_in_front
