-- Sums over numbers.
use Rattle.std.proofs.Common.{◌≡◌, ℕ, zero, suc, ◌+◌, ◌-◌, ◌*◌, ◌<◌, ◌≤◌, Bool, cond, ◌&&◌, min, inl, inr, refl, sym, ◌∙◌, ap, add-mul, arith}
use Rattle.std.specs.Bool.{IsTrue, IsFalse, nat_lt, nat_le, ◌==◌}
use Rattle.std.proofs.lemmas.Bool.{cases_lt, cases_eq, cases_Bool, or_cases, or_right, or_left}
use Rattle.std.proofs.lemmas.Bool.Decides.{nat_tests}
use Rattle.book.specs.Sums.{total, between, up_to, some_of, latest}

pub total_le : (n : ℕ) (f g : ℕ → ℕ) → ((k : ℕ) → k < n → f k ≤ g k) → total n f ≤ total n g
total_le zero f g h = omega arith
total_le (suc n) f g h = omega (arith, h n (omega arith), total_le n f g (λ k l. h k (omega arith)))

pub total_le_both : (n : ℕ) (f g h : ℕ → ℕ) → ((k : ℕ) → k < n → f k + g k ≤ h k) → total n f + total n g ≤ total n h
total_le_both zero f g h e = omega arith
total_le_both (suc n) f g h e = omega (arith, e n (omega arith), total_le_both n f g h (λ k l. e k (omega arith)))

pub total_times : (n : ℕ) (f : ℕ → ℕ) (c : ℕ) → total n (λ k. f k * c) ≡ total n f * c
total_times zero f c = omega arith
total_times (suc n) f c = omega (arith, total_times n f c, add-mul (total n f) (f n) c)

pub total_same : (n : ℕ) (f g : ℕ → ℕ) → ((k : ℕ) → k < n → f k ≡ g k) → total n f ≡ total n g
total_same zero f g h = refl
total_same (suc n) f g h = omega (arith, h n (omega arith), total_same n f g (λ k l. h k (omega arith)))

pub total_none : (n : ℕ) (f : ℕ → ℕ) → ((k : ℕ) → k < n → f k ≡ 0) → total n f ≡ 0
total_none zero f h = refl
total_none (suc n) f h = omega (arith, h n (omega arith), total_none n f (λ k l. h k (omega arith)))

pub total_add : (n : ℕ) (f g : ℕ → ℕ) → total n (λ k. f k + g k) ≡ total n f + total n g
total_add zero f g = refl
total_add (suc n) f g = omega (arith, total_add n f g)

pub at_le_total : (n : ℕ) (f : ℕ → ℕ) (k : ℕ) → k < n → f k ≤ total n f
at_le_total zero f k l = absurd (omega arith)
at_le_total (suc n) f k l = elim (cases_lt k n) [
  | inl below ↦ omega (arith, at_le_total n f k below)
  | inr last ↦ let same : k ≡ n = omega arith in rw same (omega arith)
]

-- g is f, but for x more at j
pub total_more : (n : ℕ) (f g : ℕ → ℕ) (j x : ℕ) → j < n → g j ≡ f j + x → ((k : ℕ) → k < n → (k ≡ j → ⊥) → g k ≡ f k) → total n g ≡ total n f + x
total_more zero f g j x l here else = absurd (omega arith)
total_more (suc n) f g j x l here else = elim (cases_lt j n) [
  | inl below ↦ omega (arith, else n (omega arith) (λ e. omega arith), total_more n f g j x below here (λ k m. else k (omega arith)))
  | inr last ↦
      let same : j ≡ n = omega arith in
      omega (arith, rw same at here, total_same n g f (λ k m. else k (omega arith) (λ e. omega arith)))
]

-- of f only the value at j counts
pub total_one : (n : ℕ) (f : ℕ → ℕ) (j : ℕ) → j < n → ((k : ℕ) → k < n → (k ≡ j → ⊥) → f k ≡ 0) → total n f ≡ f j
total_one n f j l else = omega (arith, total_more n (λ k. 0) f j (f j) l (omega arith) else, total_none n (λ k. 0) (λ k m. refl))

-- at most one value is 1, and the others are 0
pub total_at_most_one : (n : ℕ) (f : ℕ → ℕ) → ((k : ℕ) → k < n → f k ≤ 1) → ((j k : ℕ) → j < n → k < n → 1 ≤ f j → 1 ≤ f k → j ≡ k) → total n f ≤ 1
total_at_most_one zero f small one = omega arith
total_at_most_one (suc n) f small one = elim (cases_lt 0 (f n)) [
  | inl some ↦
      let rest = total_none n f (λ k l. elim (cases_lt 0 (f k)) [
        | inl other ↦ absurd (omega (arith, one k n (omega arith) (omega arith) other some))
        | inr none ↦ omega arith
      ]) in
      omega (arith, small n (omega arith))
  | inr none ↦ omega (arith, total_at_most_one n f (λ k l. small k (omega arith)) (λ j k l m. one j k (omega arith) (omega arith)))
]

-- two values of a sum
pub two_le_total : (n : ℕ) (f : ℕ → ℕ) (j k : ℕ) → j < n → k < n → (j ≡ k → ⊥) → f j + f k ≤ total n f
two_le_total n f j k l m apart =
    let g = λ (i : ℕ). cond (i == k) 0 (f i) in
    let here : g k ≡ 0 = grind (arith, nat_tests) in
    let there : g j ≡ f j = grind (arith, nat_tests) in
    let more = total_more n g f k (f k) m (omega (arith, here)) (λ i i' ne. grind (arith, nat_tests)) in
    omega (arith, more, at_le_total n g j l, there)

-- a sum by its first value
pub total_front : (n : ℕ) (f : ℕ → ℕ) → total (suc n) f ≡ f 0 + total n (λ k. f (suc k))
total_front zero f = omega arith
total_front (suc n) f = omega (arith, total_front n f)

-- a sum of u + n values in two parts
total_split : (u n : ℕ) (f : ℕ → ℕ) → total (u + n) f ≡ total u f + total n (λ k. f (u + k))
total_split u zero f = omega (arith, ap (λ m. total m f) (let e : u + 0 ≡ u = omega arith in e))
total_split u (suc n) f =
    let step : total (u + suc n) f ≡ total (u + n) f + f (u + n) = ap (λ m. total m f) (let e : u + suc n ≡ suc (u + n) = omega arith in e) in
    omega (arith, step, total_split u n f)

-- the sums of a table, by rows and by columns
pub total_swap : (m n : ℕ) (f : ℕ → ℕ → ℕ) → total m (λ j. total n (λ k. f j k)) ≡ total n (λ k. total m (λ j. f j k))
total_swap zero n f = sym (total_none n (λ k. 0) (λ k l. refl))
total_swap (suc m) n f = omega (arith, total_swap m n f, total_add n (λ k. total m (λ j. f j k)) (λ k. f m k))

-- how many numbers below n are from a up to but without z
pub total_within : (n a z : ℕ) → total n (λ x. cond (nat_le a x && nat_lt x z) 1 0) ≡ min n z - a
total_within zero a z = omega arith
total_within (suc n) a z = let rest = total_within n a z in grind (arith, nat_tests)

pub between_split : (u v w : ℕ) (f : ℕ → ℕ) → u ≤ v → v ≤ w → between u w f ≡ between u v f + between v w f
between_split u v w f l m =
    let all : w - u ≡ (v - u) + (w - v) = omega arith in
    let back : total (w - v) (λ k. f (u + ((v - u) + k))) ≡ between v w f = total_same (w - v) _ _ (λ k l'. ap f (omega arith)) in
    omega (arith, ap (λ m. total m (λ k. f (u + k))) all, total_split (v - u) (w - v) (λ k. f (u + k)), back)

pub between_add : (u v : ℕ) (f g : ℕ → ℕ) → between u v (λ x. f x + g x) ≡ between u v f + between u v g
between_add u v f g = total_add (v - u) (λ k. f (u + k)) (λ k. g (u + k))

pub between_same : (u v : ℕ) (f g : ℕ → ℕ) → ((x : ℕ) → u ≤ x → x < v → f x ≡ g x) → between u v f ≡ between u v g
between_same u v f g h = total_same (v - u) _ _ (λ k l. h (u + k) (omega arith) (omega arith))

pub between_none : (u v : ℕ) (f : ℕ → ℕ) → ((x : ℕ) → u ≤ x → x < v → f x ≡ 0) → between u v f ≡ 0
between_none u v f h = total_none (v - u) _ (λ k l. h (u + k) (omega arith) (omega arith))

-- some of 1 .. n
pub some_of_at : (n : ℕ) (p : ℕ → Bool) (i : ℕ) → 1 ≤ i → i ≤ n → IsTrue (p i) → IsTrue (some_of n p)
some_of_at zero p i l m t = absurd (omega arith)
some_of_at (suc n) p i l m t = elim (cases_lt n i) [
  | inl last ↦ let same : i ≡ n + 1 = omega arith in or_right (some_of n p) (p (n + 1)) (rw same at t)
  | inr below ↦ or_left (some_of n p) (p (n + 1)) (some_of_at n p i l below t)
]

pub some_of_which : (n : ℕ) (p : ℕ → Bool) → IsTrue (some_of n p) → (i : ℕ) × ((1 ≤ i) × (i ≤ n) × IsTrue (p i))
some_of_which zero p h = absurd (cc)
some_of_which (suc n) p h = elim (or_cases (some_of n p) (p (n + 1)) h) [
  | inl below ↦ let w = some_of_which n p below in (w.0, (w.1.0, omega (arith, w.1.1), w.1.2))
  | inr last ↦ (n + 1, (omega arith, omega arith, last))
]

-- the latest of 0 .. t that passes
pub latest_le : (p : ℕ → Bool) (t : ℕ) → latest p t ≤ t
latest_le p zero = omega arith
latest_le p (suc t) = let rest = latest_le p t in elim (cases_Bool (p (suc t))) [
  | inl hit ↦ rw hit (omega arith)
  | inr none ↦ rw none (omega arith)
]

pub latest_is : (p : ℕ → Bool) (t d : ℕ) → d ≤ t → IsTrue (p d) → ((x : ℕ) → d < x → x ≤ t → IsFalse (p x)) → latest p t ≡ d
latest_is p zero d l h none = omega arith
latest_is p (suc t) d l h none = elim (cases_eq d (suc t)) [
  | inl last ↦ let here : IsTrue (p (suc t)) = rw last at h in rw here (sym last)
  | inr below ↦ rw (none (suc t) (omega arith) (omega arith)) (latest_is p t d (omega arith) h (λ x l' m. none x l' (omega arith)))
]

-- one value of a sum over 1 .. n
pub at_le_up_to : (n : ℕ) (f : ℕ → ℕ) (i : ℕ) → 1 ≤ i → i ≤ n → f i ≤ up_to n f
at_le_up_to n f i some last =
    let e : i - 1 + 1 ≡ i = omega arith in
    let l = at_le_total n (λ k. f (k + 1)) (i - 1) (omega arith) in
    rw e at l

-- the value at a of a sum of n values of f, from place `from` on, if only that one counts
pub total_at : (n from a : ℕ) (f : ℕ → ℕ) → from ≤ a → a < from + n → ((p : ℕ) → (p ≡ a → ⊥) → f p ≡ 0) → total n (λ k. f (from + k)) ≡ f a
total_at n from a f low high else =
    let e : from + (a - from) ≡ a = omega arith in
    let one = total_one n (λ k. f (from + k)) (a - from) (omega arith) (λ k l ne. else (from + k) (λ e'. ne (omega arith))) in
    one ∙ ap f e

-- two tests that agree up to t have the same latest number there
pub latest_same : (p q : ℕ → Bool) (t : ℕ) → ((x : ℕ) → x ≤ t → q x ≡ p x) → latest q t ≡ latest p t
latest_same p q zero h = refl
latest_same p q (suc t) h = rw (h (suc t) (omega arith), latest_same p q t (λ x l. h x (omega arith))) refl

-- tests that agree pass alike
pub some_of_same : (n : ℕ) (p q : ℕ → Bool) → ((i : ℕ) → q i ≡ p i) → some_of n q ≡ some_of n p
some_of_same zero p q h = refl
some_of_same (suc n) p q h = rw (h (n + 1), some_of_same n p q h) refl

-- each value is b at most
pub total_le_all : (n b : ℕ) (f : ℕ → ℕ) → ((k : ℕ) → k < n → f k ≤ b) → total n f ≤ n * b
total_le_all zero b f h = omega arith
total_le_all (suc n) b f h = omega (arith, h n (omega arith), total_le_all n b f (λ k l. h k (omega arith)))

-- a positive sum has a positive value
pub total_some : (n : ℕ) (f : ℕ → ℕ) → 0 < total n f → (k : ℕ) × ((k < n) × (0 < f k))
total_some zero f l = absurd (omega arith)
total_some (suc n) f l = elim (cases_lt 0 (f n)) [
  | inl last ↦ (n, (omega arith, last))
  | inr none ↦ let w = total_some n f (omega arith) in (w.0, (omega (arith, w.1.0), w.1.1))
]
