use Rattle.std.proofs.Common.{◌-◌, ◌+◌, ◌^◌, ◌<◌, subst, arith}
use mathlib.Core.Logic.{∥∥₁_elim}
use Rattle.std.proofs.Props.{props}
use Rattle.std.specs.Prelude.{slice_index}
use Rattle.plan.specs.declared.plans.Plan.{Plan}
use Rattle.roster.specs.Coming.{Comes}
use Rattle.roster.proofs.Checking.{is_group_of}
use Rattle.roster.proofs.Reports.{lawful_over}
use Rattle.roster.proofs.Due.{present_small}
use Rattle.roster.proofs.Roster.coming.Goals as goal

pub overflow_add-from : goal.overflow_add-from
overflow_add-from g c =
    let x = c.args.self.now in
    let lawful = lawful_over (g.met.C.Calendar.laws x.calendar.now) (g.met.O.Order.laws x.order.now) x.spaced in
    let small : slice_index x.presents (c.args.group.now.number - 1) < 2 ^ 30 + 100801 = ∥∥₁_elim x.booked (hlevel props) (λ t. present_small lawful t.0 t.1 c.args.group.now.number (is_group_of x c.args.group.now c.requires)) in
    omega (arith, small)

pub returns : goal.returns
returns g c = subst (λ (p : Plan). Comes p (g.C.Calendar.dates c.args.self.now.calendar.now) c.args.self.now.models.records c.args.group.now.number (slice_index c.args.self.now.presents (c.args.group.now.number - 1) + 1) c.ask.result.dates) c.requires.plan' c.ask.ensures
