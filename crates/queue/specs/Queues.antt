-- What the contracts of a queue read of it.
use Rattle.std.specs.Prelude.{◌≡◌, ℕ, ◌+◌, Bool, List, ◌∷◌, length, take, drop}
use Rattle.std.specs.List.Sorted.{IsPermutation}
use Rattle.queue.specs.Heaps.{Heaped}
use Rattle.queue.specs.declared.Queue.{Queue}

module _ {X : Type 0} where
  -- all of the lent slots
  abbrev pub slots_of : Queue X → List X
  slots_of q = q.slots.now

  abbrev pub count_of : Queue X → ℕ
  count_of q = q.count

  -- the name of the loan: while it stays, the queue is over the same slots, whatever they hold
  abbrev pub loan_of : Queue X → ℕ
  loan_of q = q.slots.ghost_name

  -- the things that it holds
  abbrev pub things_of : Queue X → List X
  things_of q = take (count_of q) (slots_of q)

  -- it stands in this order: an empty queue stands in every order
  abbrev pub Ordered : (X → X → Bool) → Queue X → Type 0
  Ordered precedes q = Heaped precedes (slots_of q) (count_of q)

  -- more holds just what fewer holds, and x
  pub record OneMore (x : X) (fewer more : Queue X) : Type 0 where
    pub holds : IsPermutation (x ∷ things_of fewer) (things_of more)
    pub counts : count_of more ≡ count_of fewer + 1

  -- from q to r, the loan and the number of slots stay, and so do the slots from n on, and this order, if q stands in it
  pub record Stays (precedes : X → X → Bool) (n : ℕ) (q r : Queue X) : Type 0 where
    pub room : length (slots_of r) ≡ length (slots_of q)
    pub behind : drop n (slots_of r) ≡ drop n (slots_of q)
    pub keeps : Ordered precedes q → Ordered precedes r
    pub lent : loan_of r ≡ loan_of q
