use Rattle.std.proofs.Common.{◌≤◌, ◌-◌, ◌^◌, mul-le-mul_right, arith}
use Rattle.std.proofs.lemmas.Nat.{mul-le}
use Rattle.roster.proofs.Filling.{ends_fit}
use Rattle.roster.proofs.Roster.ends.Goals as goal

pub overflow_mul-result : goal.overflow_mul-result
overflow_mul-result g c =
    let fit = ends_fit c.args.self.now.plan.now c.args.mirrored c.args.worker c.requires.0 c.requires.1 in
    let small : c.end-first.result.0 ≤ 100800 = omega (arith, fit, c.end-first.ensures.size, c.args.self.now.plan.now.set.sizes.small_grain) in
    omega (arith, mul-le c.end-first.result.0 c.args.ticks 100800 (2 ^ 32) small (omega arith))

pub overflow_sub-result : goal.overflow_sub-result
overflow_sub-result g c =
    let fit = ends_fit c.args.self.now.plan.now c.args.mirrored c.args.worker c.requires.0 c.requires.1 in
    omega (arith, fit, c.end-last.ensures.size)

pub invariant_of-result : goal.invariant_of-result
invariant_of-result g c =
    let fit = ends_fit c.args.self.now.plan.now c.args.mirrored c.args.worker c.requires.0 c.requires.1 in
    let grain = c.args.self.now.plan.now.set.sizes.grain in
    record {
      apart = mul-le-mul_right c.args.ticks (let h : c.end-first.result.0 ≤ grain - c.end-last.result.0 = omega (arith, fit, c.end-first.ensures.size, c.end-last.ensures.size) in h);
      within = mul-le-mul_right c.args.ticks (let h : grain - c.end-last.result.0 ≤ grain = omega arith in h);
    }
