use Rattle.std.proofs.Common.{arith}
use Rattle.set.specs.Sets.{models_of}
use Rattle.placement.proofs.Keeps.{heavies_le}
use Rattle.placement.proofs.seating.Walk.new.Goals as goal

pub overflow_add-result : goal.overflow_add-result
overflow_add-result c =
    let counted = c.args.counted.now in
    omega (arith, counted.grouping.counted, heavies_le counted.grouping.set.now (models_of counted.grouping.set.now), counted.grouping.set.now.sizes.few_models)
