-- Arrays whose elements a closure makes.
use Rattle.std.proofs.Common.{◌≡◌, ℕ, zero, suc, ◌+◌, ◌<◌, ◌≤◌, List, length, get_or, map, sym, ◌∙◌, ⊎_elim, arith}
use Rattle.std.proofs.lemmas.Bool.{cases_eq}
use Rattle.std.proofs.lemmas.List.{ext_get_or, length-map}
use Rattle.std.proofs.Math.ListN.{get_or-map}
use Rattle.std.proofs.lemmas.List.FromFn.{fill_by_all}
use Rattle.std.specs.List.{range_with_len}
use Rattle.std.specs.Array.{IsFromFnResult, IsFromFnResultFrom, IsMapOf}
use Rattle.std.specs.Fn.{Called}
use denote.Param.Members.{Mut}

-- each call keeps what the closure holds, and answers what Fits says of the index
module _ {F B : Type 0} (g : Mut F (ℕ × Unit {0}) B) (Keeps : F → Type 0) (Fits : ℕ → B → Type 0) (step : (p : F) (i : ℕ) (y : B) (q : F) → Keeps p → Called g p (i, tt) y q → Fits i y × Keeps q) where
  made_at : (n : ℕ) (p : F) (ys : List B) (a : ℕ) → Keeps p → IsFromFnResultFrom g p ys a n → (i : ℕ) (d : B) → a ≤ i → i < a + n → Fits i (get_or ys i d)
  made_at zero p ys a keeps made i d low high = absurd (omega arith)
  made_at (suc n) p ys a keeps made i d low high =
      let now = step p a made.1 made.0 keeps made.3 in
      ⊎_elim
      (λ (same : i ≡ a). rw (same, made.2.1 d) now.0)
      (λ (ne : i ≡ a → ⊥). made_at n made.0 ys (a + 1) now.1 made.4 i d (omega arith) (omega arith))
      (cases_eq i a)

  pub from_fn_each : (p : F) (ys : List B) (n : ℕ) → Keeps p → IsFromFnResult g p ys n → (i : ℕ) (d : B) → i < n → Fits i (get_or ys i d)
  from_fn_each p ys n keeps made i d h = made_at n p ys 0 keeps made.each i d (omega arith) (omega arith)

pub from_fn_map : {F B : Type 0} (g : Mut F (ℕ × Unit {0}) B) (Keeps : F → Type 0) (f : ℕ → B) → ((p : F) (i : ℕ) (y : B) (q : F) → Keeps p → Called g p (i, tt) y q → (y ≡ f i) × Keeps q) → (p : F) (ys : List B) (n : ℕ) (d : B) → Keeps p → IsFromFnResult g p ys n → ys ≡ map f (range_with_len 0 n)
from_fn_map g Keeps f step p ys n d keeps made =
    fill_by_all f ys n d made.long (λ i h. from_fn_each g Keeps (λ i y. y ≡ f i) step p ys n keeps made i d h)

-- each call answers f of the element
pub mapped : {F A B : Type 0} (g : Mut F (A × Unit {0}) B) (f : A → B) → ((p : F) (x : A) (y : B) (q : F) → Called g p (x, tt) y q → y ≡ f x) → (p : F) (xs : List A) (ys : List B) (n : ℕ) (d : A) → length xs ≡ n → IsMapOf g p xs ys n → ys ≡ map f xs
mapped g f step p xs ys n d level made =
    ext_get_or (f d) ys (map f xs) (made.long ∙ sym level ∙ sym (length-map xs f))
    (λ i h. step _ _ _ _ (made.at i d (f d) (omega (arith, made.long))).2 ∙ sym (get_or-map f xs i d))
