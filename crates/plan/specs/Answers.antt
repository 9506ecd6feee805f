-- What a plan is asked about.
use Rattle.std.specs.Prelude.{ℕ, ◌≤◌}
use Rattle.set.specs.Sets.{worker_count_of}
use Rattle.plan.specs.declared.plans.Plan.{Plan}

-- a worker of the plan has this number
pub record Worker (plan : Plan) (worker : ℕ) : Type 0 where
  pub first : 1 ≤ worker
  pub last : worker ≤ worker_count_of plan.set
