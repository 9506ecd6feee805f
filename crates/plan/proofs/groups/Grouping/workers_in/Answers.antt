use Rattle.std.proofs.Common.{◌<◌, ◌≤◌, ◌⊎◌, arith}
use Rattle.std.proofs.lemmas.Grind.{common_steps}
use Rattle.set.specs.Heavy.{heavy_count_of}
use Rattle.plan.proofs.Spans.{no_group, group_among}
use Rattle.plan.proofs.groups.Grouping.workers_in.Goals as goal

pub returns-then-not-contains : goal.returns-then-not-contains
returns-then-not-contains c =
    let set = c.args.self.now.set.now in
    let sizes = set.sizes in
    let out : (c.args.group < 1) ⊎ (c.group_of.result < c.args.group) = grind (arith, common_steps) in
    no_group (heavy_count_of set) sizes.group_size sizes.some_group sizes.workers c.args.group (rw c.group_of.ensures at out)

pub returns : goal.returns
returns c =
    let set = c.args.self.now.set.now in
    let sizes = set.sizes in
    let counted = c.args.self.now.counted in
    let within : c.args.group ≤ c.group_of.result = grind (arith, common_steps) in
    rw counted (group_among (heavy_count_of set) sizes.group_size sizes.some_group sizes.workers c.args.group _ (omega arith) (omega arith) (rw counted at c.min-last.ensures))
