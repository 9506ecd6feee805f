use Rattle.std.proofs.Common.{◌+◌, take, ◌∙◌, arith}
use Rattle.std.proofs.lemmas.List.{length-set, take_more_set, drop-set-lt}
use Rattle.queue.specs.Queues.{things_of}
use Rattle.order.specs.Keys.{by_keys}
use Rattle.kinds.specs.Keys.{keys_by_tick}
use Rattle.queue.proofs.Stays.{drop_later, stays_on}
use Rattle.agenda.proofs.Merges.{merged_more, taken_date}
use Rattle.agenda.proofs.merge.merge.Goals as goal

pub overflow_add-date : goal.overflow_add-date
overflow_add-date g c =
    let l = c.loop-slot in
    let x = c.in-Some.date in
    let d = taken_date (g.C.Calendar.dates c.args.calendar.now) c.args.span.now.start c.args.span.now.end _ _ _ x l.invariant.merges c.in-Some.ensures.takes.holds in
    omega (arith, (g.met.C.Calendar.laws c.args.calendar.now).early x.model x.tick d.date)

pub loop-slot-preserved : goal.loop-slot-preserved
loop-slot-preserved g c =
    let dates = g.C.Calendar.dates c.args.calendar.now in
    let span = c.args.span.now in
    let l = c.loop-slot in
    let i = l.slot-index in
    let x = c.in-Some.date in
    let taken = c.in-Some.ensures.takes in
    let joined = c.join.ensures in
    let pre = by_keys keys_by_tick in
    record {
      counts = omega (arith, l.invariant.counts);
      merges = rw (take_more_set l.table i x (omega arith))
          (merged_more dates span.start span.end (take i l.table) (things_of l.queue) _ _ x l.invariant.merges taken.holds (c.in-Some.ensures.first (l.invariant.stays.keeps c.requires.ordered)) joined.joins);
      as_long = length-set l.table i x ∙ l.invariant.as_long;
      rest = drop-set-lt (i + 1) l.table i x (omega arith) ∙ drop_later l.table _ i (i + 1) (omega arith) l.invariant.rest;
      few = omega (arith, joined.few, taken.counts, l.invariant.few);
      stays = stays_on pre 64 64 _ _ _ (omega arith) (stays_on pre 64 _ _ _ _ (omega (arith, taken.counts, l.invariant.few)) l.invariant.stays c.in-Some.ensures.stays) joined.stays;
    }
