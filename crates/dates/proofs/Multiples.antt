-- Multiples of a number p.
use Rattle.std.proofs.Common.{◌≡◌, ℕ, suc, ◌+◌, ◌-◌, ◌*◌, ◌/◌, ◌%◌, ◌<◌, ◌≤◌, ◌⊎◌, inl, inr, ⊎_elim, ap, ◌∙◌, arith}
use Rattle.std.proofs.Math.Nat.{suc-mul, mul-le-mul_right, mod-eq_of_lt, mod_self, mul-mod_left}
use Rattle.std.proofs.lemmas.Nat.{div-add-mod', mod_below}
use Rattle.std.proofs.lemmas.Bool.{cases_lt, cases_eq}
use Rattle.std.specs.Int.{next_multiple_of}

-- a multiple above another is above it by p or more
pub multiples_apart : (p x y : ℕ) → x % p ≡ 0 → y % p ≡ 0 → x < y → x + p ≤ y
multiples_apart p x y h k lt =
    let q = x / p in
    let r = y / p in
    let is : q * p + x % p ≡ x = div-add-mod' x p in
    let is' : r * p + y % p ≡ y = div-add-mod' y p in
    ⊎_elim
    (λ (l : q < r). omega (arith, suc-mul q p, mul-le-mul_right p l))
    (λ (g : r ≤ q). omega (arith, mul-le-mul_right p g))
    (cases_lt q r)

module _ (p x : ℕ) (pos : 0 < p) where
  split : x / p * p + x % p ≡ x
  split = div-add-mod' x p

  below : x % p < p
  below = mod_below x p pos

  -- x is a multiple already, or the next multiple is (x / p + 1) * p
  rounds : ((x % p ≡ 0) × (next_multiple_of x p ≡ x)) ⊎ ((0 < x % p) × (next_multiple_of x p ≡ suc (x / p) * p))
  rounds =
      ⊎_elim
      (λ (e : x % p ≡ 0). inl (e, let all : p - x % p ≡ p = omega arith in omega (arith, ap (λ n. n % p) all ∙ mod_self p)))
      (λ ne. inr (omega arith, let more : (p - x % p) % p ≡ p - x % p = mod-eq_of_lt (omega (arith, below)) in omega (arith, more, split, below, suc-mul (x / p) p)))
      (cases_eq (x % p) 0)

  pub round_is_multiple : next_multiple_of x p % p ≡ 0
  round_is_multiple = ⊎_elim (λ h. ap (λ n. n % p) (h.1) ∙ h.0) (λ h. ap (λ n. n % p) (h.1) ∙ mul-mod_left (suc (x / p)) p) rounds

  pub round_from : x ≤ next_multiple_of x p
  round_from = ⊎_elim (λ h. omega (arith, h.1)) (λ h. omega (arith, h.1, split, below, suc-mul (x / p) p)) rounds

  -- no multiple that is x or more is less
  pub round_least : (y : ℕ) → y % p ≡ 0 → x ≤ y → next_multiple_of x p ≤ y
  round_least y h le =
      let s = y / p in
      let whole : s * p + y % p ≡ y = div-add-mod' y p in
      ⊎_elim
      (λ e. omega (arith, e.1))
      (λ e.
      let over = e.0 in
      let is = e.1 in
      ⊎_elim
      (λ (l : x / p < s). omega (arith, mul-le-mul_right p l))
      (λ (g : s ≤ x / p). omega (arith, split, mul-le-mul_right p g))
      (cases_lt (x / p) s))
      rounds
