-- What never falls from one number to the next never falls.
use Rattle.std.proofs.Common.{◌≡◌, ℕ, zero, suc, ◌≤◌, ⊎_elim, arith}
use Rattle.std.proofs.lemmas.Bool.{cases_eq}

pub rises : (f : ℕ → ℕ) → ((n : ℕ) → f n ≤ f (suc n)) → (n i : ℕ) → i ≤ n → f i ≤ f n
rises f step zero i h = let e : i ≡ 0 = omega arith in rw e (omega arith)
rises f step (suc n) i h =
    ⊎_elim
    (λ (e : i ≡ suc n). rw e (omega arith))
    (λ (ne : i ≡ suc n → ⊥). let r = rises f step n i (omega arith) in omega (arith, step n))
    (cases_eq i (suc n))
