use Rattle.std.proofs.Common.{refl}
use Rattle.std.proofs.lemmas.Grind.{merely}
use Rattle.book.specs.Books.{blank}
use Rattle.roster.proofs.Opening.{opened_says, spaced_is}
use Rattle.roster.proofs.Roster.open.Goals as goal

pub invariant_of-result : goal.invariant_of-result
invariant_of-result g c =
    let plan = c.args.plan.now in
    record {
      groups = refl;
      flags = refl;
      chained = c.of.ensures;
      grouped = c.grouping.ensures;
      spaced = spaced_is plan (g.C.Calendar.dates c.args.calendar.now) (g.C.Calendar.spacings c.args.calendar.now) c.in_ok-check.ensures.0;
      booked = merely (blank, opened_says plan (g.C.Calendar.dates c.args.calendar.now) (g.O.Order.precedes c.args.order.now) _ c.start.ensures);
    }

pub returns : goal.returns
returns g c =
    (c.in_ok-check.ensures.0, record { plan' = refl; calendar' = refl; order' = refl; is = opened_says c.args.plan.now (g.C.Calendar.dates c.args.calendar.now) (g.O.Order.precedes c.args.order.now) _ c.start.ensures })
