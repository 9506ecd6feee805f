use Rattle.std.proofs.Common.{rules, arith, ◌∙◌}
use Rattle.std.proofs.lemmas.Iterator.{YieldsList-from_range}
use Rattle.std.proofs.lemmas.Iterator.Consumers.{count_from_yields_List, YieldsList-from_filter}
use Rattle.set.specs.Sets.{models_of}
use Rattle.set.specs.Heavy.{heavy}
use Rattle.set.proofs.Heavies.{heavies_picked}
use Rattle.set.proofs.sets.Set.heavy_count.Goals as goal

pub returns : goal.returns
returns c =
    let set = c.args.self.now in
    let all = count_from_yields_List c.filter.result c.count.result c.count.ensures.ran (YieldsList-from_filter _ (heavy set) (YieldsList-from_range 0 (models_of set) (models_of set) c.filter.ensures.source (omega arith)) c.filter.ensures.closure (λ x b q k. search rules)) in
    all ∙ heavies_picked set (models_of set)
