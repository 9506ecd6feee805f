use Rattle.std.proofs.Common.{◌≡◌, ◌+◌, ◌<◌, ◌≤◌, ◌∙◌, true, length, Some, arith}
use Rattle.std.proofs.lemmas.List.{length-take-le}
use Rattle.std.proofs.lemmas.Result.{err_from_is_err_and}
use Rattle.refusal.specs.Refusals.{told}
use Rattle.refusal.proofs.Firsts.{failed, not_both}
use Rattle.set.specs.Sets.{models_of}
use Rattle.placement.specs.Rules.{about_placing, room_for_light}
use Rattle.placement.proofs.Bounds.{never_refused}
use Rattle.placement.proofs.Carries.{pieces_in_front, carried_in_front}
use Rattle.placement.proofs.Facts.{within, room}
use Rattle.placement.proofs.places.place.Goals as goal

pub returns-in_err-counted : goal.returns-in_err-counted
returns-in_err-counted c =
    let p = err_from_is_err_and c.from_residual.result c.from_residual.ensures.1 in
    let set = c.args.set.now in
    let fault : about_placing set ≡ Some (told c.in_err-counted.field-0.0) = failed _ _ _ _ c.in_err-counted.ensures in
    rw (p.1, p.2) record { places = fault; modest = λ m. absurd (not_both _ _ fault (never_refused set m)) }

pub returns-in_err-pieces : goal.returns-in_err-pieces
returns-in_err-pieces c =
    let p = err_from_is_err_and c.from_residual-in_err-pieces.result c.from_residual-in_err-pieces.ensures.1 in
    let set = c.args.set.now in
    let is = c.in_ok-counted.ensures.1 in
    let ok : room_for_light set ≡ true = rw is at c.in_ok-counted.counted.roomy in
    let fault : about_placing set ≡ Some (told c.in_err-pieces.field-0.0) = rw ok (rw is at c.in_err-pieces.ensures) in
    rw (p.1, p.2) record { places = fault; modest = λ m. absurd (not_both _ _ fault (never_refused set m)) }

pub loads_of-loads-requires : goal.loads_of-loads-requires
loads_of-loads-requires c =
    let set = c.args.set.now in
    let n = models_of set in
    let pieces = c.in_ok-pieces.pieces in
    let is = c.in_ok-counted.ensures.1 in
    let ok : room_for_light set ≡ true = rw is at c.in_ok-counted.counted.roomy in
    let seated = rw is at c.in_ok-pieces.ensures in
    let full : length pieces ≡ 64 = omega arith in
    let front : n ≤ length pieces = omega (arith, set.sizes.few_models) in
    let level = length-take-le n pieces front in
    record {
      few = omega (arith, set.sizes.few_models);
      within = λ i h. let lt : i < n = omega arith in rw (pieces_in_front pieces n i lt) (within set pieces seated.1 ok seated.0 i lt);
      room = λ p. rw (carried_in_front pieces n p front) (room set pieces seated.1 ok seated.0 p);
    }

pub plan_of-requires-clause-loads : goal.plan_of-requires-clause-loads
plan_of-requires-clause-loads c p h =
    let set = c.args.set.now in
    let pieces = c.in_ok-pieces.pieces in
    let full : length pieces ≡ 64 = omega arith in
    let front : models_of set ≤ length pieces = omega (arith, set.sizes.few_models) in
    rw c.in_ok-counted.ensures.1 (c.loads_of-loads.ensures p h ∙ carried_in_front pieces (models_of set) (p + 1) front)
