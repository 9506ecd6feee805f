use Rattle.set.specs.Heavy.{heavy_count_of}
use Rattle.plan.proofs.Spans.{counts}
use Rattle.plan.proofs.groups.Grouping.count.Goals as goal

pub returns : goal.returns
returns c =
    let set = c.args.self.now.set.now in
    let sizes = set.sizes in
    counts (heavy_count_of set) sizes.group_size sizes.some_group sizes.workers _ sizes.some_workers c.group_of.ensures
