use Rattle.std.proofs.Common.{◌≡◌, ◌≤◌, length, take, drop}
use Rattle.order.specs.Keys.{by_keys}
use Rattle.kinds.specs.Keys.{keys_by_tick}
use Rattle.queue.specs.Queues.{count_of, things_of, Stays}
use Rattle.agenda.specs.Merging.{Merged}
use Rattle.agenda.proofs.merge.merge.Given as goal

abbrev pub invariant-loop-slot : goal.invariant-loop-slot
invariant-loop-slot g l = record {
  counts : l.count ≡ l.slot-index;
  merges : Merged (g.C.Calendar.dates l.calendar) l.span.start l.span.end (take l.slot-index l.table) (things_of l.queue);
  as_long : length l.table ≡ length l.initial.table;
  rest : drop l.slot-index l.table ≡ drop l.slot-index l.initial.table;
  few : count_of l.queue ≤ 64;
  stays : Stays (by_keys keys_by_tick) 64 l.initial.queue l.queue;
}
