use Rattle.std.proofs.Common.{◌+◌, ◌-◌, ◌≤◌}
use Rattle.order.specs.Keys.{by_keys}
use Rattle.kinds.specs.Keys.{keys_by_tick}
use Rattle.queue.specs.Queues.{count_of, things_of, Stays}
use Rattle.agenda.proofs.Merges.{Started}
use Rattle.agenda.proofs.merge.start.Given as goal

abbrev pub invariant-loop-model : goal.invariant-loop-model
invariant-loop-model g l = record {
  starts : Started (g.C.Calendar.dates l.calendar) l.span.start l.span.end (l.model - 1) (things_of l.queue);
  few : count_of l.queue + 1 ≤ l.model;
  stays : Stays (by_keys keys_by_tick) 64 l.initial.queue l.queue;
}
