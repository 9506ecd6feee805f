use Rattle.std.proofs.Common.{arith}
use Rattle.std.proofs.lemmas.Result.{err_from_is_err_and}
use Rattle.refusal.proofs.Firsts.{first_more, first_stays}
use Rattle.set.specs.Sets.{models_of}
use Rattle.placement.specs.Rules.{about_light}
use Rattle.placement.proofs.Steps.{placed_more}
use Rattle.placement.proofs.places.fill_seats.Goals as goal

pub returns-in_err-seat : goal.returns-in_err-seat
returns-in_err-seat c =
    let p = err_from_is_err_and c.from_residual.result c.from_residual.ensures.1 in
    let set = c.args.counted.now.grouping.set.now in
    rw (p.1, p.2) (first_stays (about_light set) (models_of set) c.loop-i.i _ (omega arith) c.loop-i.invariant.2 c.in_err-seat.ensures.answers)

pub loop-i-preserved : goal.loop-i-preserved
loop-i-preserved c =
    let set = c.args.counted.now.grouping.set.now in
    let i = c.loop-i.i in (
      c.in_ok-seat.ensures.heavies,
      c.in_ok-seat.ensures.cursor,
      first_more (about_light set) i c.loop-i.invariant.2 c.in_ok-seat.ensures.answers.0,
      placed_more set i c.loop-i.seats c.in_ok-seat.field-0 (omega arith) c.in_ok-seat.ensures.answers.1 c.loop-i.invariant.3,
    )
