-- What the pieces of a model put on a worker.
use Rattle.std.proofs.Common.{◌≡◌, ℕ, ◌+◌, ◌<◌, ◌≤◌, Bool, true, false, cond, ◌⊎◌, inl, inr, refl, arith}
use Rattle.std.specs.Bool.{IsTrue}
use Rattle.std.proofs.lemmas.Bool.{eqb-true, eq-eqb}
use Rattle.std.proofs.lemmas.Bool.Decides.{nat_tests}
use Rattle.plan.specs.declared.pieces.Pieces.{Pieces}
use Rattle.plan.specs.declared.pieces.Pieces.TheVariants.{Whole, Divided}
use Rattle.plan.specs.Shares.{worker_of, last_of, first_of, second_of, on_worker}
use Rattle.book.specs.Sums.{total}
use Rattle.book.specs.Racks.{is_divided, whole_on, first_on, second_on}
use Rattle.book.specs.Turns.{head_of, tail_of}
use Rattle.book.proofs.Sums.{total_add, total_at}

-- the parts of a tick that an undivided model has on worker p
abbrev pub whole_size : ℕ → Pieces → ℕ
whole_size p x = cond (whole_on p x) (first_of x) 0

-- what is on a worker is its two pieces and the undivided models
pub on_worker_is : (mirrored : Bool) (p : ℕ) (x : Pieces) → on_worker p x ≡ head_of mirrored p x + tail_of mirrored p x + whole_size p x
on_worker_is true p (Whole worker size) = grind (arith, nat_tests)
on_worker_is false p (Whole worker size) = grind (arith, nat_tests)
on_worker_is true p (Divided worker first second) = grind (arith, nat_tests)
on_worker_is false p (Divided worker first second) = grind (arith, nat_tests)

-- a piece that comes first or last is that of a divided model, on one of its two workers
pub head_worker : (mirrored : Bool) (p : ℕ) (x : Pieces) → 0 < head_of mirrored p x → IsTrue (is_divided x) × (worker_of x + cond mirrored 1 0 ≡ p)
head_worker true p (Whole worker size) l = absurd (omega arith)
head_worker false p (Whole worker size) l = absurd (omega arith)
head_worker true p (Divided worker first second) l = (refl, grind (arith, nat_tests))
head_worker false p (Divided worker first second) l = (refl, grind (arith, nat_tests))

-- it is the first of them, or the second
pub end_worker : (mirrored : Bool) (p : ℕ) (x : Pieces) → 0 < head_of mirrored p x → (worker_of x ≡ p) ⊎ (IsTrue (is_divided x) × (worker_of x + 1 ≡ p))
end_worker true p x some = inr (head_worker true p x some)
end_worker false p x some = let w = head_worker false p x some in inl (omega arith)

-- an undivided model has but its one worker
pub whole_worker : (p : ℕ) (x : Pieces) → IsTrue (whole_on p x) → (worker_of x ≡ p) × (is_divided x ≡ false)
whole_worker p (Whole worker size) h = (eqb-true worker p h, refl)
whole_worker p (Divided worker first second) h = absurd (cc)

-- the two ends of a worker, whichever comes first
pub both_ends : (mirrored : Bool) (p : ℕ) (x : Pieces) → head_of mirrored p x + tail_of mirrored p x ≡ first_on p x + second_on p x
both_ends true p x = omega arith
both_ends false p x = refl

-- pieces at two ends are together at most the whole
pub two_ends : (mirrored : Bool) (p q : ℕ) (x : Pieces) → head_of mirrored p x + tail_of mirrored q x ≤ first_of x + second_of x
two_ends true p q (Whole worker size) = omega arith
two_ends false p q (Whole worker size) = omega arith
two_ends true p q (Divided worker first second) = grind (arith, nat_tests)
two_ends false p q (Divided worker first second) = grind (arith, nat_tests)

-- an undivided model has no pieces at the ends, and a divided one no turn
pub whole_ends : (mirrored : Bool) (p : ℕ) (x : Pieces) → is_divided x ≡ false → head_of mirrored p x ≡ 0
whole_ends true p (Whole worker size) h = refl
whole_ends false p (Whole worker size) h = refl
whole_ends mirrored p (Divided worker first second) h = absurd (cc)

-- a divided model is whole nowhere
pub divided_whole : (p : ℕ) (x : Pieces) → IsTrue (is_divided x) → whole_on p x ≡ false
divided_whole p (Whole worker size) h = absurd (cc)
divided_whole p (Divided worker first second) h = refl

-- a model that is not divided is whole on its worker
pub whole_at : (x : Pieces) → is_divided x ≡ false → IsTrue (whole_on (worker_of x) x)
whole_at (Whole worker size) h = eq-eqb worker worker refl
whole_at (Divided worker first second) h = absurd (cc)

-- an undivided model has no second piece
pub whole_second : (p : ℕ) (x : Pieces) → IsTrue (whole_on p x) → second_of x ≡ 0
whole_second p (Whole worker size) h = refl
whole_second p (Divided worker first second) h = absurd (cc)

-- the last worker of an undivided model is its only one, and that of a divided one the next
pub whole_last : (x : Pieces) → is_divided x ≡ false → last_of x ≡ worker_of x
whole_last (Whole worker size) h = refl
whole_last (Divided worker first second) h = absurd (cc)

pub divided_last : (x : Pieces) → IsTrue (is_divided x) → last_of x ≡ worker_of x + 1
divided_last (Whole worker size) h = absurd (cc)
divided_last (Divided worker first second) h = refl

-- a divided model has a second piece
pub second_some : (x : Pieces) → IsTrue (is_divided x) → (worker_of x < last_of x → 1 ≤ second_of x) → 0 < second_of x
second_some (Whole worker size) h some = absurd (cc)
second_some (Divided worker first second) h some = some (omega arith)

-- the first piece is on the first worker, and the second on the next
first_at : (x : Pieces) → IsTrue (is_divided x) → first_on (worker_of x) x ≡ first_of x
first_at (Whole worker size) h = absurd (cc)
first_at (Divided worker first second) h = grind (arith, nat_tests)

first_else : (x : Pieces) (p : ℕ) → (p ≡ worker_of x → ⊥) → first_on p x ≡ 0
first_else (Whole worker size) p h = refl
first_else (Divided worker first second) p h = grind (arith, nat_tests)

second_at : (x : Pieces) → IsTrue (is_divided x) → second_on (worker_of x + 1) x ≡ second_of x
second_at (Whole worker size) h = absurd (cc)
second_at (Divided worker first second) h = grind (arith, nat_tests)

second_else : (x : Pieces) (p : ℕ) → (p ≡ worker_of x + 1 → ⊥) → second_on p x ≡ 0
second_else (Whole worker size) p h = refl
second_else (Divided worker first second) p h = grind (arith, nat_tests)

-- over neighbours among which a divided model's two workers are, its pieces add up
pub pieces_over : (q from : ℕ) (x : Pieces) → IsTrue (is_divided x) → from ≤ worker_of x → worker_of x + 1 < from + q → total q (λ k. first_on (from + k) x + second_on (from + k) x) ≡ first_of x + second_of x
pieces_over q from x d low high =
    let one = total_at q from (worker_of x) (λ p. first_on p x) low (omega arith) (first_else x) in
    let two = total_at q from (worker_of x + 1) (λ p. second_on p x) (omega arith) high (second_else x) in
    omega (arith, total_add q (λ k. first_on (from + k) x) (λ k. second_on (from + k) x), one, two, first_at x d, second_at x d)
