-- What each run may still claim of one worker's supply, and that service keeps the claims within it.
use Rattle.std.proofs.Common.{◌≡◌, ℕ, zero, suc, ◌+◌, ◌-◌, ◌*◌, ◌<◌, ◌≤◌, Bool, true, false, cond, min, inl, inr, refl, mul-le-mul_left, mul-le-mul_right, arith}
use Rattle.std.specs.Bool.{IsTrue, nat_le}
use Rattle.std.proofs.lemmas.Bool.{cases_lt, cases_eq, both_ways}
use Rattle.std.proofs.lemmas.Bool.Decides.{nat_tests}
use Rattle.book.specs.Sums.{total}
use Rattle.book.proofs.Sums.{total_le, total_le_both, total_times, at_le_total}
use Rattle.book.proofs.Lineup.{IsLineup, given, given_in_all}

-- a model is withdrawn, waits for its next run, or has one with this deadline and so much left
pub data State : Type 0 where
  gone : State
  waiting : State
  live : (deadline left : ℕ) → State

-- what a model of weight w may claim by tick d, which is k ticks away
abbrev pub claim : ℕ → State → ℕ → ℕ → ℕ
claim w gone d k = 0
claim w waiting d k = w * k
claim w (live e l) d k = cond (nat_le e d) (l + w * (d - e)) 0

-- what is left of its run
abbrev pub left_of : State → ℕ
left_of gone = 0
left_of waiting = 0
left_of (live e l) = l

-- a state once g parts more are given
abbrev pub after : ℕ → State → State
after g gone = gone
after g waiting = waiting
after g (live e l) = live e (l - g)

-- at tick t the first n models claim no more than the supply, S a tick, by any later tick
abbrev pub Covered : ℕ → ℕ → (ℕ → ℕ) → (ℕ → State) → ℕ → Type 0
Covered n S w state t = (k : ℕ) → total n (λ j. claim (w j) (state j) (t + k) k) ≤ S * k

-- the deadline is tick d or earlier
abbrev due : ℕ → State → Bool
due d gone = false
due d waiting = false
due d (live e l) = nat_le e d

-- no deadline is before tick u
abbrev NotBefore : ℕ → State → Type 0
NotBefore u p = (e l : ℕ) → p ≡ live e l → u ≤ e

-- what is given to a run that is due comes off its claim
pressed : (w D d k g : ℕ) (p : State) → g ≤ left_of p → claim w (after g p) d k + cond (due d p) g 0 ≤ claim w p d (D + k)
pressed w D d k g gone h = omega arith
pressed w D d k g waiting h = omega arith
pressed w D d k g (live e l) h = grind (arith, nat_tests)

-- a run that has all it needs claims only its weight
idle : (w u k g : ℕ) (p : State) → NotBefore u p → (due (u + k) p ≡ true → g ≡ left_of p) → claim w (after g p) (u + k) k ≤ w * k
idle w u k g gone past all = omega arith
idle w u k g waiting past all = omega arith
idle w u k g (live e l) past all =
    let late = past e l refl in
    let rest = mul-le-mul_left w (let h : u + k - e ≤ k = omega arith in h) in
    grind (arith, nat_tests)

-- of two runs one precedes the other only if its deadline is no later
due_first : (d : ℕ) (p q : State) → ((e l e' l' : ℕ) → q ≡ live e l → p ≡ live e' l' → e < e' → ⊥) → due d q ≡ true → 0 < left_of p → due d p ≡ true
due_first d gone q order is some = absurd (omega arith)
due_first d waiting q order is some = absurd (omega arith)
due_first d (live e' l') gone order is some = absurd (cc)
due_first d (live e' l') waiting order is some = absurd (cc)
due_first d (live e' l') (live e l) order is some =
    let o = order e l e' l' refl refl in
    grind (arith, nat_tests)

cond_le : (b : Bool) (x y : ℕ) → x ≤ y → cond b x 0 ≤ cond b y 0
cond_le true x y h = h
cond_le false x y h = omega arith

-- values whose sum is that of their bounds are their bounds
all_same : (n : ℕ) (f g : ℕ → ℕ) → ((k : ℕ) → k < n → f k ≤ g k) → total n g ≤ total n f → (k : ℕ) → k < n → f k ≡ g k
all_same zero f g le same k l = absurd (omega arith)
all_same (suc n) f g le same k l =
    let last = le n (omega arith) in
    let rest = total_le n f g (λ j m. le j (omega arith)) in
    elim (cases_eq k n) [
      | inl here ↦ rw here (omega arith)
      | inr below ↦ all_same n f g (λ j m. le j (omega arith)) (omega arith) k (omega arith)
    ]

-- models that claim no more than their weights claim no more than the supply
pub start_within : (n S : ℕ) (w : ℕ → ℕ) (state : ℕ → State) (d k : ℕ) → total n w ≤ S → ((j : ℕ) → j < n → claim (w j) (state j) d k ≤ w j * k) → total n (λ j. claim (w j) (state j) d k) ≤ S * k
start_within n S w state d k fits h =
    omega (arith, total_le n (λ j. claim (w j) (state j) d k) (λ j. w j * k) h, total_times n w k, mul-le-mul_right k fits)

complete_of : (w t l : ℕ) → claim w (live t l) (t + 0) 0 ≤ 0 → l ≡ 0
complete_of w t l h = grind (arith, nat_tests)

-- nothing is left of a run at its deadline
pub complete : (n S : ℕ) (w : ℕ → ℕ) (state : ℕ → State) (t : ℕ) → Covered n S w state t → (j l : ℕ) → j < n → state j ≡ live t l → l ≡ 0
complete n S w state t within j l m is =
    let own = at_le_total n (λ j. claim (w j) (state j) (t + 0) 0) j m in
    let none : claim (w j) (state j) (t + 0) 0 ≤ 0 = omega (arith, within 0) in
    complete_of (w j) t l (rw is at none)

-- D ticks of service that give each run no more than it needs, and of the due ones together as much as they need or all the supply
kept : (n S D t k : ℕ) (w g : ℕ → ℕ) (state : ℕ → State) → total n w ≤ S
    → ((j : ℕ) → j < n → NotBefore (t + D) (state j))
    → ((j : ℕ) → g j ≤ left_of (state j))
    → total n (λ j. cond (due (t + D + k) (state j)) (g j) 0) ≡ min (S * D) (total n (λ j. cond (due (t + D + k) (state j)) (left_of (state j)) 0))
    → Covered n S w state t
    → total n (λ j. claim (w j) (after (g j) (state j)) (t + D + k) k) ≤ S * k
kept n S D t k w g state fits late small all within = elim (cases_lt (total n (λ j. cond (due (t + D + k) (state j)) (left_of (state j)) 0)) (S * D)) [
  | inl rest ↦
      let same = all_same n (λ j. cond (due (t + D + k) (state j)) (g j) 0) (λ j. cond (due (t + D + k) (state j)) (left_of (state j)) 0) (λ j l. cond_le (due (t + D + k) (state j)) (g j) (left_of (state j)) (small j)) (omega arith) in
      start_within n S w (λ j. after (g j) (state j)) (t + D + k) k fits (λ j l. idle (w j) (t + D) k (g j) (state j) (late j l) (λ is. rw is at (same j l)))
  | inr busy ↦
      let before : total n (λ j. claim (w j) (state j) (t + D + k) (D + k)) ≤ S * (D + k) = rw (let e : t + (D + k) ≡ t + D + k = omega arith in e) at (within (D + k)) in
      let both = total_le_both n _ _ _ (λ j l. pressed (w j) D (t + D + k) k (g j) (state j) (small j)) in
      omega arith
]

-- service in the order of deadlines keeps the claims within the supply up to the first deadline
pub served_within : (prec : ℕ → ℕ → Bool) → IsLineup prec → (n S D t : ℕ) (w : ℕ → ℕ) (state : ℕ → State) → total n w ≤ S
    → ((a b e l e' l' : ℕ) → state a ≡ live e l → state b ≡ live e' l' → e < e' → IsTrue (prec a b))
    → ((j e l : ℕ) → j < n → state j ≡ live e l → t + D ≤ e)
    → Covered n S w state t
    → Covered n S w (λ j. after (given prec (S * D) (λ i. left_of (state i)) n j) (state j)) (t + D)
served_within prec lineup n S D t w state fits earlier late within k =
    let with_all : (j i : ℕ) → j < n → i < n → IsTrue (due (t + D + k) (state i)) → IsTrue (prec j i) → 0 < left_of (state j) → IsTrue (due (t + D + k) (state j)) = λ j i _ _ is first some. due_first (t + D + k) (state j) (state i) (λ e l e' l' e1 e2 lt. both_ways (prec i i) (lineup.never i) (lineup.carries i j i (earlier i j e l e' l' e1 e2 lt) first)) is some in
    kept n S D t k w (given prec (S * D) (λ i. left_of (state i)) n) state fits (λ j m e l. late j e l m) (λ j. omega arith) (given_in_all prec lineup (λ i. left_of (state i)) (λ j. due (t + D + k) (state j)) n (S * D) with_all) within

-- a state in which no model claims more
pub within_from : (n S t : ℕ) (w : ℕ → ℕ) (state state' : ℕ → State) → ((j k : ℕ) → j < n → claim (w j) (state' j) (t + k) k ≤ claim (w j) (state j) (t + k) k) → Covered n S w state t → Covered n S w state' t
within_from n S t w state state' less within k = omega (arith, total_le n (λ j. claim (w j) (state' j) (t + k) k) (λ j. claim (w j) (state j) (t + k) k) (λ j l. less j k l), within k)

-- a run that begins claims no more than a model that waits
pub begun : (w T t k : ℕ) → claim w (live (t + T) (w * T)) (t + k) k ≤ w * k
begun w T t k =
    let whole : t + T ≤ t + k → w * (T + (t + k - (t + T))) ≤ w * k = λ h. mul-le-mul_left w (omega arith) in
    grind (arith, nat_tests)

-- and a model that waits no more than a run that ends
pub ended : (w t l k : ℕ) → w * k ≤ claim w (live t l) (t + k) k
ended w t l k = let e : t + k - t ≡ k = omega arith in rw e (grind (arith, nat_tests))
