use Rattle.std.proofs.Common.{◌≡◌, ℕ, ◌<◌, None}
use Rattle.refusal.specs.Refusals.{first_below}
use Rattle.plan.specs.Shares.{pieces_at}
use Rattle.set.specs.Heavy.{heavies}
use Rattle.placement.specs.Rules.{cursor, placed, about_light}
use Rattle.placement.proofs.places.fill_seats.Given as goal

-- the models so far are placed, and none of them was refused
abbrev pub invariant-loop-i : goal.invariant-loop-i
invariant-loop-i l =
    let set = l.counted.grouping.set.now in
    (l.walk.heavies ≡ heavies set l.i) × (l.walk.cursor ≡ cursor set l.i) × (first_below (about_light set) l.i ≡ None) × ((k : ℕ) → k < l.i → pieces_at l.seats k ≡ placed set k)
