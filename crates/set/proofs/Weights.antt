-- The laws of a weight.
use Rattle.std.proofs.Common.{◌≡◌, ℕ, ◌*◌, ◌/◌, ◌%◌, ◌<◌, ◌≤◌, refl, mul-le-mul_right, div-mul-le_self, arith}
use Rattle.set.specs.declared.sets.Set.{Set}
use Rattle.set.specs.Sets.{Weighs, models_of, grain_of, cost_of, period_of, weight_of}

-- a period that divides the grain goes into it a whole number of times
pub times : (grain period : ℕ) → grain % period ≡ 0 → grain / period * period ≡ grain
times grain period h = grind arith

pub weight_exact : (cost grain period : ℕ) → grain % period ≡ 0 → cost * (grain / period) * period ≡ cost * grain
weight_exact cost grain period h = grind (arith, times)

pub weight_fits : (cost grain period : ℕ) → cost ≤ period → cost * (grain / period) ≤ grain
weight_fits cost grain period h = grind (arith, div-mul-le_self, mul-le-mul_right)

quotient_some : (q period grain : ℕ) → q * period ≡ grain → 1 ≤ grain → 1 ≤ q
quotient_some q period grain e h = grind arith

pub weight_some : (cost grain period : ℕ) → 1 ≤ cost → 1 ≤ grain → grain % period ≡ 0 → 1 ≤ cost * (grain / period)
weight_some cost grain period some-cost some-grain h =
    let some = quotient_some (grain / period) period grain (times grain period h) some-grain in
    grind arith

pub weighs : (set : Set) (i : ℕ) → i < models_of set → Weighs set i (weight_of set i)
weighs set i h =
    let timed = set.timed i h in
    let costed = set.costed i h in
    record {
      is = refl;
      exact = weight_exact (cost_of set i) (grain_of set) (period_of set i) timed.1;
      some = weight_some (cost_of set i) (grain_of set) (period_of set i) costed.0 set.sizes.some_grain timed.1;
      fits = weight_fits (cost_of set i) (grain_of set) (period_of set i) costed.1;
    }
