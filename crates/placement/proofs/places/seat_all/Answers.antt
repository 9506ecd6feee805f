use Rattle.std.proofs.Common.{◌≡◌, ◌∙◌, length, replicate, arith}
use Rattle.std.proofs.lemmas.List.{length-take-le, length-replicate}
use Rattle.plan.specs.Shares.{nowhere}
use Rattle.placement.proofs.Steps.{table_seated}
use Rattle.placement.proofs.places.seat_all.Goals as goal

pub returns : goal.returns
returns c =
    let set = c.args.counted.now.grouping.set.now in
    let n = set.sizes.models in
    let level : length c.fill_seats.new.seats ≡ n =
    c.fill_seats.auto.seats ∙ length-take-le n (replicate 64 nowhere) (omega (arith, set.sizes.few_models, length-replicate 64 nowhere)) in
    (c.in_ok-fill_seats.ensures.0, table_seated set c.fill_seats.new.seats n 64 level c.in_ok-fill_seats.ensures.1)
