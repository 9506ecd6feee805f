use Rattle.std.proofs.Common.{◌≡◌, ◌-◌, ◌^◌, ◌<◌, ◌≤◌, sym, ap, ◌∙◌, subst, arith}
use mathlib.Core.Logic.{∥∥₁_elim}
use Rattle.std.proofs.Props.{props}
use Rattle.set.specs.Sets.{period_of}
use Rattle.book.proofs.Racks.{rack_of-IsRack}
use Rattle.roster.specs.Records.{phase_at, date_in}
use Rattle.roster.proofs.Reports.{lawful_over}
use Rattle.roster.proofs.Withdrawing.{has_model}
use Rattle.roster.proofs.RowsTold.{early}
use Rattle.roster.proofs.Roster.waiting.Goals as goal

pub overflow_add-result : goal.overflow_add-result
overflow_add-result g c =
    let x = c.args.self.now in
    let lawful = lawful_over (g.met.C.Calendar.laws x.calendar.now) (g.met.O.Order.laws x.order.now) x.spaced in
    let is = c.in_ok-slot.ensures in
    let model = has_model x.plan.now c.args.model is.0 in
    let date : c.in-Live.date ≡ date_in (phase_at x.models.records (c.args.model - 1)) = ap date_in (sym c.in-Live.is ∙ c.phase.ensures) ∙ ap (λ k. date_in (phase_at x.models.records k)) is.1 in
    let soon : date_in (phase_at x.models.records (c.args.model - 1)) < 2 ^ 30 = ∥∥₁_elim x.booked (hlevel props) (λ t. early t.0 t.1 lawful c.args.model model) in
    let short : period_of x.plan.now.set c.in_ok-slot.slot ≤ 100800 = subst (λ k. period_of x.plan.now.set k ≤ 100800) (sym is.1) ((rack_of-IsRack x.plan.now).fine c.args.model is.0.first is.0.last).small_period in
    omega (arith, date, soon, short)
