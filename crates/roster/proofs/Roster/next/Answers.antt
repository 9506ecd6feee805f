use Rattle.std.proofs.Common.{◌-◌, sym, ap, ◌∙◌, subst, arith}
use mathlib.Core.Logic.{∥∥₁_elim}
use Rattle.std.proofs.Props.{props}
use Rattle.std.specs.Prelude.{slice_index}
use Rattle.plan.specs.declared.plans.Plan.{Plan}
use Rattle.roster.specs.Coming.{DeadlinesFit, next_by}
use Rattle.roster.proofs.Checking.{is_group_of}
use Rattle.roster.proofs.Reports.{lawful_over}
use Rattle.roster.proofs.Due.{deadline_small, next_told}
use Rattle.roster.proofs.Soonest.{later_if, soonest_later}
use Rattle.roster.proofs.Roster.next.Goals as goal

pub next-requires : goal.next-requires
next-requires g c =
    let x = c.args.self.now in
    let group = c.args.group.now in
    let lawful = lawful_over (g.met.C.Calendar.laws x.calendar.now) (g.met.O.Order.laws x.order.now) x.spaced in
    record {
      fits = subst (λ (p : Plan). DeadlinesFit p x.models.records group.number) (sym c.requires.group.plan')
          (λ i model same. ∥∥₁_elim x.booked (hlevel props) (λ t. deadline_small lawful t.0 t.1 group.number i model));
    }

pub returns-clause-next : goal.returns-clause-next
returns-clause-next g c =
    let x = c.args.self.now in
    let group = c.args.group.now in
    let lawful = lawful_over (g.met.C.Calendar.laws x.calendar.now) (g.met.O.Order.laws x.order.now) x.spaced in
    let is = c.next.ensures ∙ ap (λ (p : Plan). next_by p x.models.records c.args.coming.now.dates group.number) c.requires.group.plan' in
    λ b tells. rw is (next_told lawful b tells group.number (is_group_of x group c.requires.group) c.args.coming.now.dates c.requires.comes)

pub returns-clause-later : goal.returns-clause-later
returns-clause-later g c =
    let x = c.args.self.now in
    let group = c.args.group.now in
    let lawful = lawful_over (g.met.C.Calendar.laws x.calendar.now) (g.met.O.Order.laws x.order.now) x.spaced in
    let here = is_group_of x group c.requires.group in
    let from = c.next.ensures ∙ ap (λ (p : Plan). next_by p x.models.records c.args.coming.now.dates group.number) c.requires.group.plan' in
    later_if c.next.result (slice_index x.presents (group.number - 1)) x.booked (λ t d is.
    let next = next_told lawful t.0 t.1 group.number here c.args.coming.now.dates c.requires.comes in
    omega (arith, t.1.present' group.number here, soonest_later _ _ d _ (sym {b = next_by x.plan.now x.models.records c.args.coming.now.dates group.number} from ∙ is) next))
