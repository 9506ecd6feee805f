use Rattle.std.proofs.Common.{◌-◌, ◌+◌, ◌≡◌, subst, arith}
use Rattle.queue.specs.Queues.{things_of}
use Rattle.order.specs.Keys.{by_keys}
use Rattle.kinds.specs.Keys.{keys_by_tick}
use Rattle.queue.proofs.Stays.{stays_on}
use Rattle.agenda.proofs.Merges.{stays_itself, Started, started_none, started_more, merged_none}
use Rattle.agenda.proofs.merge.start.Goals as goal

pub loop-model-init : goal.loop-model-init
loop-model-init g c = record {
  starts = rw c.requires.empty (started_none (g.C.Calendar.dates c.args.calendar.now) c.args.span.now.start c.args.span.now.end (g.met.C.Calendar.laws c.args.calendar.now));
  few = omega (arith, c.requires.empty);
  stays = stays_itself c.args.queue.now;
}

pub loop-model-preserved : goal.loop-model-preserved
loop-model-preserved g c =
    let dates = g.C.Calendar.dates c.args.calendar.now in
    let span = c.args.span.now in
    let l = c.loop-model in
    let same : l.model ≡ l.model + 1 - 1 = omega arith in
    record {
      starts = subst (λ n. Started dates span.start span.end n (things_of c.join.new.queue)) same
          (started_more dates span.start span.end l.model _ _ l.invariant.starts c.join.ensures.joins l.auto.model);
      few = omega (arith, c.join.ensures.few, l.invariant.few);
      stays = stays_on (by_keys keys_by_tick) 64 64 _ _ _ (omega arith) l.invariant.stays c.join.ensures.stays;
    }

pub returns-clause-starts : goal.returns-clause-starts
returns-clause-starts g c =
    let dates = g.C.Calendar.dates c.args.calendar.now in
    let span = c.args.span.now in
    let l = c.loop-model in
    let last : l.model - 1 ≡ 64 = omega (arith, c.loop-model-test.false, l.auto.model-end (omega arith)) in
    merged_none dates span.start span.end (g.met.C.Calendar.laws c.args.calendar.now) (things_of l.queue) (subst (λ n. Started dates span.start span.end n (things_of l.queue)) last l.invariant.starts)
