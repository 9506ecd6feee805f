use Rattle.std.proofs.Math.Nat.{le_trans, le_refl}
use Rattle.paced.proofs.job.Job.of_figures.Goals as goal

-- worker 1 has a group
pub invariant_of-result : goal.invariant_of-result
invariant_of-result c =
    let plan = c.in_ok-plan.plan in
    let of_first = c.group_count.ensures.every 1 (le_refl 1) plan.set.sizes.some_workers in
    record { some = le_trans of_first.0 of_first.1 }
