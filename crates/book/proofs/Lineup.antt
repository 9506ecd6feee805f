-- Runs on one worker, each served when all that precede it are done.
use Rattle.std.proofs.Common.{◌≡◌, ◌≢◌, ℕ, zero, suc, ◌+◌, ◌-◌, ◌<◌, ◌≤◌, Bool, true, false, cond, not, ◌&&◌, ◌==◌, min, inl, inr, refl, sym, add-zero, arith}
use Rattle.std.specs.Bool.{IsTrue, IsFalse, nat_lt, nat_le}
use Rattle.std.proofs.lemmas.Bool.{cases_lt, cases_eq, cases_Bool, cond_both}
use Rattle.std.proofs.lemmas.Bool.Decides.{nat_tests}
use Rattle.book.specs.Sums.{total}
use Rattle.book.proofs.Sums.{total_le, total_same, total_none, total_more, total_swap, total_within}

-- the order of service
pub record IsLineup (prec : ℕ → ℕ → Bool) : Type 0 where
  pub never : (j : ℕ) → IsFalse (prec j j)
  pub carries : (a b c : ℕ) → IsTrue (prec a b) → IsTrue (prec b c) → IsTrue (prec a c)
  pub one_of_two : (a b : ℕ) → a ≢ b → prec a b ≡ not (prec b a)

-- 1 if part y is one of the l parts from b on
abbrev turn : ℕ → ℕ → ℕ → ℕ
turn b l y = cond (nat_le b y && nat_lt y (b + l)) 1 0

-- how many numbers below n are below z
total_below : (n z : ℕ) → total n (λ x. cond (nat_lt x z) 1 0) ≡ min n z
total_below zero z = omega arith
total_below (suc n) z = let rest = total_below n z in grind (arith, nat_tests)

-- Behind a parts, r more are put in. A turn is before these, or behind them, when they move it by r
before_more : (a r b l y : ℕ) (p : Bool) → (p ≡ true → a ≤ b) → (p ≡ false → b + l ≤ a) → y < a → turn (b + cond p r 0) l y ≡ turn b l y
before_more a r b l y true late early h = let m = late refl in grind (arith, nat_tests)
before_more a r b l y false late early h = grind (arith, nat_tests)

within_more : (a r b l y : ℕ) (p : Bool) → (p ≡ true → a ≤ b) → (p ≡ false → b + l ≤ a) → a ≤ y → y < a + r → turn (b + cond p r 0) l y ≡ 0
within_more a r b l y true late early h h' = let m = late refl in grind (arith, nat_tests)
within_more a r b l y false late early h h' = let m = early refl in grind (arith, nat_tests)

behind_more : (a r b l y : ℕ) (p : Bool) → (p ≡ true → a ≤ b) → (p ≡ false → b + l ≤ a) → a + r ≤ y → turn (b + cond p r 0) l y ≡ turn b l (y - r)
behind_more a r b l y true late early h = grind (arith, nat_tests)
behind_more a r b l y false late early h = let m = early refl in grind (arith, nat_tests)

-- a turn of r parts put in behind a parts covers just these
one_more : (b l : ℕ → ℕ) (p : ℕ → Bool) (n a r all y : ℕ)
    → ((k : ℕ) → k < n → p k ≡ true → a ≤ b k)
    → ((k : ℕ) → k < n → p k ≡ false → b k + l k ≤ a)
    → a ≤ all
    → ((x : ℕ) → total n (λ k. turn (b k) (l k) x) ≡ cond (nat_lt x all) 1 0)
    → total n (λ k. turn (b k + cond (p k) r 0) (l k) y) + turn a r y ≡ cond (nat_lt y (all + r)) 1 0
one_more b l p n a r all y late early within covered =
    let g = λ (k : ℕ). turn (b k + cond (p k) r 0) (l k) y in
    elim (cases_lt y a) [
      | inl low ↦
          let same = total_same n g _ (λ k m. before_more a r (b k) (l k) y (p k) (late k m) (early k m) low) in
          let rest = covered y in
          grind (arith, nat_tests)
      | inr high ↦ elim (cases_lt y (a + r)) [
        | inl here ↦
            let none = total_none n g (λ k m. within_more a r (b k) (l k) y (p k) (late k m) (early k m) high here) in
            grind (arith, nat_tests)
        | inr beyond ↦
            let same = total_same n g _ (λ k m. behind_more a r (b k) (l k) y (p k) (late k m) (early k m) beyond) in
            let rest = covered (y - r) in
            grind (arith, nat_tests)
      ]
    ]

-- of what precedes a due run, only what is due counts
due_before : (x : ℕ) (p t : Bool) → (p ≡ true → 0 < x → t ≡ true) → cond p (cond t x 0) 0 ≡ cond p x 0
due_before x false t h = refl
due_before x true true h = refl
due_before x true false h = elim (cases_lt 0 x) [
  | inl some ↦ let e = h refl some in cc
  | inr none ↦ omega arith
]

-- what a run gets of the first S parts, counted by its turns
due_turns : (b b' l S : ℕ) (t : Bool) → (t ≡ true → b' ≡ b) → cond t (min S (b + l) - b) 0 ≡ total S (λ y. turn b' (cond t l 0) y)
due_turns b b' l S true same = rw (same refl) (sym (total_within S b (b + l)))
due_turns b b' l S false same = sym (total_none S _ (λ y h. grind (arith, nat_tests)))

-- prec a b says that run a precedes run b
module _ (prec : ℕ → ℕ → Bool) where
  -- what is left of the first n runs that precede run k
  abbrev pub before : (ℕ → ℕ) → ℕ → ℕ → ℕ
  before left n k = total n (λ j. cond (prec j k) (left j) 0)

  -- what run k gets of the first S parts
  abbrev pub given : ℕ → (ℕ → ℕ) → ℕ → ℕ → ℕ
  given S left n k = min S (before left n k + left k) - before left n k

  pub before_le : (left : ℕ → ℕ) (n k : ℕ) → before left n k ≤ total n left
  before_le left n k = total_le n _ left (λ j l. cond_both (prec j k) (left j) 0 (λ x. x ≤ left j) (λ e. omega arith) (λ e. omega arith))

  module _ (lineup : IsLineup prec) where
    -- run k and all that precede it precede run m
    before_first : (left : ℕ → ℕ) (n k m : ℕ) → k < n → IsTrue (prec k m) → before left n k + left k ≤ before left n m
    before_first left n k m l first =
        let g = λ (j : ℕ). cond (j == k) (left j) (cond (prec j k) (left j) 0) in
        let own = lineup.never k in
        let more = total_more n (λ j. cond (prec j k) (left j) 0) g k (left k) l (rw own (grind (arith, nat_tests))) (λ j l' ne. grind (arith, nat_tests)) in
        let le = total_le n g (λ j. cond (prec j m) (left j) 0) (λ j l'. elim (cases_eq j k) [
          | inl same ↦ rw (same, first) (grind (arith, nat_tests))
          | inr other ↦ elim (cases_Bool (prec j k)) [
            | inl is ↦ rw (is, lineup.carries j k m is first) (grind (arith, nat_tests))
            | inr no' ↦ rw no' (grind (arith, nat_tests))
          ]
        ]) in
        omega arith

    -- all that precede run m precede run k
    before_later : (left : ℕ → ℕ) (n k m : ℕ) → IsTrue (prec m k) → before left n m ≤ before left n k
    before_later left n k m later = total_le n _ _ (λ j l. elim (cases_Bool (prec j m)) [
      | inl is ↦ rw (is, lineup.carries j m k is later) (omega arith)
      | inr no' ↦ rw no' (omega arith)
    ])

    -- at part y one of the first n runs has its turn, just as long as something is left
    pub cover : (left : ℕ → ℕ) (n y : ℕ) → total n (λ k. cond (nat_le (before left n k) y && nat_lt y (before left n k + left k)) 1 0) ≡ cond (nat_lt y (total n left)) 1 0
    cover left zero y = grind (arith, nat_tests)
    cover left (suc n) y =
        let early : (k : ℕ) → k < n → prec n k ≡ false → before left n k + left k ≤ before left n n = λ k l e. before_first left n k n l (rw (lineup.one_of_two k n (omega arith), e) refl) in
        let more = one_more (before left n) left (prec n) n (before left n n) (left n) (total n left) y (λ k l. before_later left n k n) early (before_le left n n) (cover left n) in
        rw (lineup.never n, add-zero) more

    -- what runs get of the first S parts, if all that precede them are among them
    pub given_in_all : (left : ℕ → ℕ) (due : ℕ → Bool) (n S : ℕ)
        → ((j k : ℕ) → j < n → k < n → IsTrue (due k) → IsTrue (prec j k) → 0 < left j → IsTrue (due j))
        → total n (λ k. cond (due k) (given S left n k) 0) ≡ min S (total n (λ k. cond (due k) (left k) 0))
    given_in_all left due n S with_all =
        let only = λ (j : ℕ). cond (due j) (left j) 0 in
        let same : (k : ℕ) → k < n → due k ≡ true → before only n k ≡ before left n k = λ k l is. total_same n _ _ (λ j m. due_before (left j) (prec j k) (due j) (with_all j k m l is)) in
        let each = total_same n (λ k. cond (due k) (given S left n k) 0) (λ k. total S (λ y. turn (before only n k) (only k) y)) (λ k l. due_turns (before left n k) (before only n k) (left k) S (due k) (same k l)) in
        let covered = total_same S (λ y. total n (λ k. turn (before only n k) (only k) y)) (λ y. cond (nat_lt y (total n only)) 1 0) (λ y l. cover only n y) in
        let swapped = total_swap n S (λ k y. turn (before only n k) (only k) y) in
        omega (arith, total_below S (total n only))
