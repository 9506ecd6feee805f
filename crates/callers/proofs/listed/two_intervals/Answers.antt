use Rattle.std.proofs.Common.{refl}
use Rattle.callers.proofs.Entries.{known}
use Rattle.callers.proofs.listed.two_intervals.Goals as goal

pub returns : goal.returns
returns g c =
    let (fine, performed) = c.in_ok-perform.ensures.performs in
    let first = c.new-2.ensures in
    let second = c.new-3.ensures in
    let one = c.interval.ensures in
    let two = c.interval-2.ensures in
    (fine, known _ first.holds.0 second.holds.0 performed (rw (c.new.ensures.asks, first.asks, second.asks, c.new-4.ensures.asks) refl) c.answer.ensures one.answer one.words two.answer two.words c.answer-2.ensures)
