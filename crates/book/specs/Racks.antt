-- What a book reads of a plan. Models, workers and groups are counted from 1.
use Rattle.std.specs.Prelude.{ℕ, ◌+◌, ◌-◌, Bool, true, false, if◌then◌else◌, ◌==◌}
use Rattle.set.specs.Sets.{models_of, worker_count_of, grain_of, period_of, weight_of, parts_of}
use Rattle.plan.specs.declared.pieces.Pieces.{Pieces}
use Rattle.plan.specs.declared.pieces.Pieces.TheVariants.{Whole, Divided}
use Rattle.plan.specs.declared.plans.Plan.{Plan}
use Rattle.plan.specs.Shares.{pieces_at}
use Rattle.plan.specs.Groups.{group_in}

pub record Rack : Type 0 where
  -- how many models and workers there are, and how many parts each worker has in a tick
  pub models : ℕ
  pub workers : ℕ
  pub grain : ℕ
  -- the group of a worker
  pub group : ℕ → ℕ
  -- of a model: its period in ticks
  pub period : ℕ → ℕ
  -- the parts that each of its runs needs
  pub parts : ℕ → ℕ
  -- its weight: the parts that it needs of each tick, on the average
  pub weight : ℕ → ℕ
  -- and where it has them: whole on a worker, or in two pieces on neighbours
  pub pieces : ℕ → Pieces

abbrev pub rack_of : Plan → Rack
rack_of plan = record {
  models = models_of plan.set;
  workers = worker_count_of plan.set;
  grain = grain_of plan.set;
  group = group_in plan.set;
  period = λ i. period_of plan.set (i - 1);
  parts = λ i. parts_of plan.set (i - 1);
  weight = λ i. weight_of plan.set (i - 1);
  pieces = λ i. pieces_at plan.pieces (i - 1);
}

-- a model is whole on worker p
abbrev pub whole_on : ℕ → Pieces → Bool
whole_on p (Whole worker size) = worker == p
whole_on p (Divided worker first second) = false

abbrev pub is_divided : Pieces → Bool
is_divided (Whole worker size) = false
is_divided (Divided worker first second) = true

-- the size of a first piece on worker p: 0 where it is not there
abbrev pub first_on : ℕ → Pieces → ℕ
first_on p (Whole worker size) = 0
first_on p (Divided worker first second) = if worker == p then first else 0

-- the same of a second piece
abbrev pub second_on : ℕ → Pieces → ℕ
second_on p (Whole worker size) = 0
second_on p (Divided worker first second) = if worker + 1 == p then second else 0
