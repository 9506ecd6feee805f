-- What the steps inside a put or a take promise each other; no public contract speaks of it.
use Rattle.std.specs.Prelude.{◌≡◌, ℕ, ◌+◌, ◌*◌, ◌<◌, ◌≤◌, Bool, false, List, length, take, drop, slice_index_or}
use Rattle.std.specs.List.Sorted.{IsPermutation}
use Rattle.queue.specs.Queues.{slots_of, count_of, loan_of}
use Rattle.queue.specs.declared.Queue.{Queue}

module _ {X : Type 0} where
  -- c is a child of slot p among the first n, and no child there precedes it
  pub record FirstChild (precedes : X → X → Bool) (xs : List X) (p n c : ℕ) : Type 0 where
    pub from : p * 2 + 1 ≤ c
    pub to : c ≤ p * 2 + 2
    pub within : c < n
    pub first : (k : ℕ) (d : X) → p * 2 + 1 ≤ k → k ≤ p * 2 + 2 → k < n → precedes (slice_index_or xs k d) (slice_index_or xs c d) ≡ false

  -- ys is xs, but that the first n may stand in another order
  pub record Rearranged (n : ℕ) (xs ys : List X) : Type 0 where
    pub room : length ys ≡ length xs
    pub holds : IsPermutation (take n xs) (take n ys)
    pub behind : drop n ys ≡ drop n xs

  -- r is q, but with these slots, of which the first n are rearranged
  pub record Sifted (n : ℕ) (slots : List X) (q r : Queue X) : Type 0 where
    pub counts : count_of r ≡ count_of q
    pub lent : loan_of r ≡ loan_of q
    pub things : Rearranged n slots (slots_of r)
