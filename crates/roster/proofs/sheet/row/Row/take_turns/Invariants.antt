use Rattle.std.proofs.Common.{◌+◌, ◌≤◌, ℕ, Bool}
use Rattle.book.specs.Sheets.{Says}
use Rattle.queue.specs.Queues.{count_of, things_of, Stays}
use Rattle.roster.specs.Spans.{spans_of, span_count}
use Rattle.roster.specs.Turns.{AreTurns}
use Rattle.roster.proofs.Lineups.{Taken}
use Rattle.roster.proofs.sheet.row.Row.take_turns.Given as goal

abbrev pub decreases-loop-reached : goal.decreases-loop-reached
decreases-loop-reached g l = count_of l.queue

abbrev pub invariant-loop-reached : goal.invariant-loop-reached
invariant-loop-reached g l = record {
  taken : Taken (g.O.Order.precedes l.order) (things_of l.fn.queue) (things_of l.queue) l.at l.closes l.reached;
  says : (has : ℕ → ℕ → Bool) → AreTurns (g.O.Order.precedes l.order) (things_of l.fn.queue) l.at l.closes has → Says l.at has (spans_of l.fn.self) → Says l.reached has (spans_of l.self);
  few : count_of l.queue ≤ count_of l.fn.queue;
  room : span_count l.self + count_of l.queue ≤ span_count l.fn.self + count_of l.fn.queue;
  stays : Stays (g.O.Order.precedes l.order) (count_of l.fn.queue) l.fn.queue l.queue;
}
