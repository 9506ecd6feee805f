-- What placement's examples ask: whether a weight is heavy, and the loads of a plan.
use Rattle.std.proofs.Common.{◌≡◌, ℕ, zero, suc, ◌+◌, ◌*◌, ◌<◌, Bool, ◌&&◌, map, slice_index, refl, ◌∙◌, ap, arith}
use Rattle.std.specs.Bool.{nat_lt}
use Rattle.std.specs.List.{range_with_len}
use Rattle.set.specs.declared.sets.Set.{Set}
use Rattle.set.specs.Sets.{models_of, worker_count_of}
use Rattle.plan.specs.declared.plans.Plan.{Plan}
use Rattle.plan.specs.Shares.{carried, pieces_at}
use Rattle.placement.specs.Rules.{placed}
use Rattle.placement.specs.Placing.{Follows}
use Rattle.placement.proofs.Carries.{carried_same}
use Rattle.shown.specs.Examples.{loads_of}

-- the test of a weight, over plain numbers
abbrev pub heavy_by : (workers group grain weight : ℕ) → Bool
heavy_by workers group grain weight = nat_lt group workers && nat_lt (group * grain) (weight * (group + 1))

-- two functions that agree below the end of a range
same_map : (f g : ℕ → ℕ) (a n : ℕ) → ((p : ℕ) → p < a + n → f p ≡ g p) → map f (range_with_len a n) ≡ map g (range_with_len a n)
same_map f g a zero same = refl
same_map f g a (suc n) same = let here : f a ≡ g a = same a (omega arith) in let rest = same_map f g (a + 1) n (λ p h. same p (omega arith)) in cc

-- the loads are those of the rules
module _ (set : Set) (plan : Plan) (follows : Follows set plan) where
  load : (p : ℕ) → p < 32 → slice_index plan.loads p ≡ carried (placed set) (p + 1) (models_of set)
  load p h = (plan.loaded p h).0 ∙ rw follows.same (carried_same (pieces_at plan.pieces) (placed set) (p + 1) (models_of set) follows.seated'.each)

  pub loads_placed : loads_of plan ≡ map (λ p. carried (placed set) (p + 1) (models_of set)) (range_with_len 0 (worker_count_of set))
  loads_placed =
      ap (λ (s : Set). map (slice_index plan.loads) (range_with_len 0 (worker_count_of s))) follows.same
      ∙ same_map (slice_index plan.loads) (λ p. carried (placed set) (p + 1) (models_of set)) 0 (worker_count_of set) (λ p h. load p (omega (arith, set.sizes.few_workers)))
