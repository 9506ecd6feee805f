use Rattle.placement.proofs.Facts.{loaded, shared, grouped, one_first_piece, one_second_piece, positive}
use Rattle.placement.proofs.places.plan_of.Goals as goal

pub invariant_of-result : goal.invariant_of-result
invariant_of-result c =
    let counted = c.args.counted.now in
    let set = counted.grouping.set.now in
    let pieces = c.args.pieces in
    let seated = c.requires.seated in
    let ok = counted.roomy in
    let fine = c.requires.fine in
    record {
      loaded = loaded set pieces seated ok fine c.args.loads c.requires.loads;
      shared = shared set pieces seated ok fine;
      grouped = grouped set pieces seated ok fine;
      one_first = one_first_piece set pieces seated ok fine;
      one_second = one_second_piece set pieces seated ok fine;
      positive = positive set pieces seated ok fine;
    }
