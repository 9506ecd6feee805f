-- The four facts that every plan has. Beside the limits of its set they are all that code above may use.
use Rattle.std.specs.Prelude.{◌≡◌, ℕ, ◌+◌, ◌<◌, ◌≤◌, List, slice_index}
use Rattle.set.specs.declared.sets.Set.{Set}
use Rattle.set.specs.Sets.{models_of, worker_count_of, grain_of, weight_of}
use Rattle.plan.specs.declared.pieces.Pieces.{Pieces}
use Rattle.plan.specs.Shares.{worker_of, last_of, first_of, second_of, pieces_at, carried}
use Rattle.plan.specs.Groups.{group_in}

module _ (set : Set) (pieces : List Pieces) where
  -- 1. a load is the sum of its pieces, and at most the grain
  abbrev pub Loaded : List ℕ → Type 0
  Loaded loads = (p : ℕ) → p < 32 → (slice_index loads p ≡ carried (pieces_at pieces) (p + 1) (models_of set)) × (slice_index loads p ≤ grain_of set)

  -- 2. a model is on one worker or on two neighbours, and its pieces add up to its weight; both workers are in one group
  abbrev pub Shared : Type 0
  Shared = (i : ℕ) → i < models_of set → (1 ≤ worker_of (pieces_at pieces i)) × (last_of (pieces_at pieces i) ≤ worker_count_of set) × (first_of (pieces_at pieces i) + second_of (pieces_at pieces i) ≡ weight_of set i)

  abbrev pub Grouped : Type 0
  Grouped = (i : ℕ) → i < models_of set → group_in set (worker_of (pieces_at pieces i)) ≡ group_in set (last_of (pieces_at pieces i))

  -- 3. a worker has at most one first and one second piece; the second is always on the next worker, so one follows from the other
  abbrev pub BothDivided : ℕ → ℕ → Type 0
  BothDivided i j = (i < models_of set) × (j < models_of set) × (0 < second_of (pieces_at pieces i)) × (0 < second_of (pieces_at pieces j))

  abbrev pub OneFirst : Type 0
  OneFirst = (i j : ℕ) → BothDivided i j × (worker_of (pieces_at pieces i) ≡ worker_of (pieces_at pieces j)) → i ≡ j

  abbrev pub OneSecond : Type 0
  OneSecond = (i j : ℕ) → BothDivided i j × (last_of (pieces_at pieces i) ≡ last_of (pieces_at pieces j)) → i ≡ j

  -- 4. every piece is at least 1
  abbrev pub Positive : Type 0
  Positive = (i : ℕ) → i < models_of set → (1 ≤ first_of (pieces_at pieces i)) × (worker_of (pieces_at pieces i) < last_of (pieces_at pieces i) → 1 ≤ second_of (pieces_at pieces i))
