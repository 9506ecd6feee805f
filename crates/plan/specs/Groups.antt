-- How workers stand in groups: the first few one by one, the others k by k. All are counted from 1.
use Rattle.std.specs.Prelude.{◌≡◌, ℕ, ◌+◌, ◌-◌, ◌/◌, ◌≤◌, cond, ◌≢◌, nat_le}
use Rattle.set.specs.declared.sets.Set.{Set}
use Rattle.set.specs.Sets.{worker_count_of, group_size_of}
use Rattle.set.specs.Heavy.{heavy_count_of}

-- the group of worker p, where workers 1 to alone are groups of one
abbrev pub group_of : ℕ → ℕ → ℕ → ℕ
group_of alone k p = cond (nat_le p alone) p (alone + 1 + (p - alone - 1) / k)

-- where each of m workers has a group, group g is just those from first to last
pub record Group (group : ℕ → ℕ) (m g first last : ℕ) : Type 0 where
  pub from_one : 1 ≤ first
  pub some : first ≤ last
  pub within : last ≤ m
  pub inside : (p : ℕ) → first ≤ p → p ≤ last → group p ≡ g
  pub only : (p : ℕ) → 1 ≤ p → p ≤ m → group p ≡ g → (first ≤ p) × (p ≤ last)

-- none of m workers is in group g
abbrev pub NoGroup : (ℕ → ℕ) → ℕ → ℕ → Type 0
NoGroup group m g = (p : ℕ) → 1 ≤ p → p ≤ m → group p ≢ g

-- m workers stand in so many groups: each worker is in one of them, and each of them has a worker
pub record Counts (group : ℕ → ℕ) (m count : ℕ) : Type 0 where
  pub every : (p : ℕ) → 1 ≤ p → p ≤ m → (1 ≤ group p) × (group p ≤ count)
  pub each : (g : ℕ) → 1 ≤ g → g ≤ count → (p : ℕ) × ((1 ≤ p) × (p ≤ m) × (group p ≡ g))

module _ (set : Set) where
  -- the group of worker p of the set: each heavy model has a worker alone
  abbrev pub group_in : ℕ → ℕ
  group_in p = group_of (heavy_count_of set) (group_size_of set) p

  -- the set's workers in group g are just those from first to last
  abbrev pub GroupIn : (g first last : ℕ) → Type 0
  GroupIn = Group group_in (worker_count_of set)

  -- it has no worker in group g
  abbrev pub NoGroupIn : (g : ℕ) → Type 0
  NoGroupIn = NoGroup group_in (worker_count_of set)

  -- its workers stand in so many groups
  abbrev pub CountsIn : (count : ℕ) → Type 0
  CountsIn = Counts group_in (worker_count_of set)
