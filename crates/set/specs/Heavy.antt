-- Which models are heavy. The model in slot i has the number i + 1.
use Rattle.std.specs.Prelude.{ℕ, zero, suc, ◌+◌, ◌*◌, Bool, cond, ◌&&◌, nat_lt}
use Rattle.set.specs.Sets.{models_of, weight_of}
use Rattle.set.specs.declared.sets.Set.{Set}
use Rattle.set.specs.declared.sizes.Sizes.{Sizes}

-- a weight is heavy where a group has fewer than all workers, and it is more than k / (k + 1) of the grain
abbrev pub is_heavy_weight : Sizes → ℕ → Bool
is_heavy_weight sizes weight = nat_lt sizes.group_size sizes.workers && nat_lt (sizes.group_size * sizes.grain) (weight * (sizes.group_size + 1))

module _ (set : Set) where
  abbrev pub heavy : ℕ → Bool
  heavy i = is_heavy_weight set.sizes (weight_of set i)

  -- how many of the first n models are heavy
  abbrev pub heavies : ℕ → ℕ
  heavies zero = 0
  heavies (suc n) = heavies n + cond (heavy n) 1 0

  -- how many are heavy in all
  abbrev pub heavy_count_of : ℕ
  heavy_count_of = heavies (models_of set)
