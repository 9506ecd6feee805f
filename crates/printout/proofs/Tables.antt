-- A plan's table has a slot for each model.
use Rattle.std.proofs.Common.{◌≡◌, ◌-◌, ◌<◌, ◌≤◌, length, ap, ⊎_elim, arith}
use Rattle.std.proofs.lemmas.Bool.{cases_lt}
use Rattle.std.proofs.lemmas.List.{get_or_past}
use Rattle.plan.specs.declared.plans.Plan.{Plan}
use Rattle.plan.specs.Shares.{first_of, pieces_at, nowhere}

-- what stands behind the table is no piece
pub slots_enough : (plan : Plan) → plan.set.sizes.models ≤ length plan.pieces
slots_enough plan =
    let n = plan.set.sizes.models in
    let some = plan.set.sizes.some_models in
    ⊎_elim
    (λ (short : length plan.pieces < n).
    let last : n - 1 < n = omega arith in
    let none : first_of (pieces_at plan.pieces (n - 1)) ≡ 0 = ap first_of (get_or_past plan.pieces (n - 1) nowhere (omega arith)) in
    omega (arith, (plan.positive (n - 1) last).0, none))
    (λ (le : n ≤ length plan.pieces). le)
    (cases_lt (length plan.pieces) n)
