-- A worker is in a group.
use Rattle.std.proofs.Common.{ℕ, ◌≤◌, refl}
use Rattle.std.specs.Bool.{IsTrue}
use Rattle.std.proofs.lemmas.Bool.{and_from, le-leb}
use Rattle.set.specs.Heavy.{heavy_count_of}
use Rattle.plan.specs.declared.plans.Plan.{Plan}
use Rattle.plan.proofs.Spans.{counts}
use Rattle.book.specs.Racks.{rack_of}
use Rattle.book.specs.Calls.{is_group}

-- the group of each worker is one of the groups
pub worker_group : (plan : Plan) (p : ℕ) → 1 ≤ p → p ≤ (rack_of plan).workers → IsTrue (is_group (rack_of plan) ((rack_of plan).group p))
worker_group plan p some last =
    let rack = rack_of plan in
    let sizes = plan.set.sizes in
    let every = (counts (heavy_count_of plan.set) sizes.group_size sizes.some_group sizes.workers (rack.group rack.workers) sizes.some_workers refl).every p some last in
    and_from _ _ (le-leb _ _ every.0) (le-leb _ _ every.1)
