-- Who has a worker, from one end of its row to the other; no public contract speaks of it.
use Rattle.std.specs.Prelude.{◌≡◌, ℕ, ◌+◌, ◌-◌, ◌*◌, ◌<◌, ◌≤◌, Bool, List, IsTrue, IsFalse, ◌==◌}
use Rattle.kinds.specs.declared.runs.Run.{Run}
use Rattle.book.specs.Sums.{up_to}
use Rattle.roster.specs.declared.sheet.ends.Ends.{Ends}
use Rattle.roster.specs.Turns.{all_left, AreTurns}

-- what is at the two ends has the worker there, and the runs have it between them, in their turns, until all have what they need
pub record Divides (precedes : Run → Run → Bool) (runs : List Run) (ends : Ends) (has : ℕ → ℕ → Bool) : Type 0 where
  pub front : (i x : ℕ) → 1 ≤ i → x < ends.opens → (ends.head == i) ≡ has i x
  pub turns : AreTurns precedes runs ends.opens ends.closes has
  pub idle : (i x : ℕ) → 1 ≤ i → ends.opens + all_left runs ≤ x → x < ends.closes → IsFalse (has i x)
  pub back : (i x : ℕ) → 1 ≤ i → ends.closes ≤ x → x < ends.long → (ends.tail == i) ≡ has i x

-- m is the live model with a piece at one end of a worker, or 0 if there is none
pub record IsAtEnd (live : ℕ → Bool) (size : ℕ → ℕ) (m : ℕ) : Type 0 where
  pub stands : 1 ≤ m → IsTrue (live m) × (0 < size m)
  pub only : (i : ℕ) → IsTrue (live i) → 0 < size i → m ≡ i

-- the ends of a worker in an interval of D ticks, by the sizes of the pieces that come first there and last
pub record AreEnds (live : ℕ → Bool) (head tail : ℕ → ℕ) (models grain D : ℕ) (ends : Ends) : Type 0 where
  pub head' : IsAtEnd live head ends.head
  pub opens' : ends.opens ≡ up_to models head * D
  pub closes' : ends.closes ≡ (grain - up_to models tail) * D
  pub tail' : IsAtEnd live tail ends.tail
  pub long' : ends.long ≡ grain * D
