use Rattle.book.specs.Laws.{Lawful}
use Rattle.callers.proofs.Rosters.{steps}
use Rattle.callers.proofs.Steps.{knows}
use Rattle.callers.proofs.stepped.two_intervals.Goals as goal

pub returns : goal.returns
returns g c =
    let opened = c.in_ok-roster.ensures in
    let lawful : Lawful c.args.plan.now (g.C.Calendar.dates c.args.calendar.now) (g.C.Calendar.spacings c.args.calendar.now) (g.O.Order.precedes c.args.order.now) =
    record { calendar = g.met.C.Calendar.laws c.args.calendar.now; order = g.met.O.Order.laws c.args.order.now; spaced = opened.0 } in
    (opened.0, knows lawful (steps opened.1 c.withdraw-withdrawal.ensures c.advance-first.ensures c.advance-second.ensures c.withdraw-last_withdrawal.ensures))
