use Rattle.std.proofs.Common.{◌≡◌, ◌+◌, length}
use Rattle.book.specs.Racks.{rack_of}
use Rattle.book.specs.Books.{Book}
use Rattle.book.specs.Turns.{AreRows}
use Rattle.roster.specs.Keeping.{IsBookOf}
use Rattle.roster.specs.Tables.{rows_of}
use Rattle.roster.proofs.Roster.rows.Given as goal

abbrev pub invariant-loop-worker : goal.invariant-loop-worker
invariant-loop-worker g l = record {
  rows : (b : Book) → IsBookOf l.self b → AreRows (rack_of l.self.plan.now) (g.C.Calendar.dates l.self.calendar.now) (g.O.Order.precedes l.self.order.now) b l.ticks l.group.workers.first (rows_of l.rows);
  all : l.group.workers.first + length (rows_of l.rows) ≡ l.worker;
  scratch : length l.scratch ≡ length l.fn.scratch;
}
