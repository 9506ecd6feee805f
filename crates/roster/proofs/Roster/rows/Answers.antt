use Rattle.std.proofs.Common.{◌<◌, ◌-◌, false, length, ap, sym, ◌∙◌, arith}
use Rattle.std.specs.Prelude.{slice_index_or}
use Rattle.std.proofs.lemmas.List.{length_push}
use mathlib.Core.Logic.{∥∥₁_elim}
use Rattle.std.proofs.Props.{props}
use Rattle.book.specs.Racks.{rack_of}
use Rattle.roster.specs.Spans.{spans_of}
use Rattle.roster.specs.Tables.{rows_of}
use Rattle.roster.proofs.Tables.{rows_count, rows_total}
use Rattle.roster.proofs.Checking.{inside_of}
use Rattle.roster.proofs.Reports.{lawful_over}
use Rattle.roster.proofs.RowsTold.{rows_more, room_more}
use Rattle.roster.proofs.Roster.rows.Goals as goal

pub push-requires-clause-worker : goal.push-requires-clause-worker
push-requires-clause-worker g c =
    let l = c.loop-worker in
    let workers = inside_of c.args.self.now c.args.group.now c.requires.group in
    omega (arith, rows_count l.rows, l.invariant.all, c.loop-worker-test.true, workers.from_one, workers.within, c.args.self.now.plan.now.set.sizes.few_workers)

pub push-requires-clause-room : goal.push-requires-clause-room
push-requires-clause-room g c =
    let x = c.args.self.now in
    let l = c.loop-worker in
    let workers = inside_of c.args.self.now c.args.group.now c.requires.group in
    let lawful = lawful_over {plan = x.plan.now} (g.met.C.Calendar.laws x.calendar.now) (g.met.O.Order.laws x.order.now) x.spaced in
    let rows = rows_of l.rows in
    let few : length rows < 32 = omega (arith, l.invariant.all, c.loop-worker-test.true, workers.from_one, workers.within, x.plan.now.set.sizes.few_workers) in
    ∥∥₁_elim x.booked (hlevel props) (λ t. omega (arith, rows_total l.rows, room_more lawful t.0 c.args.ticks c.args.group.now.workers.first l.worker rows (spans_of c.make_row.new.row) (l.invariant.rows t.0 t.1) (sym l.invariant.all) (c.make_row.ensures.row t.0 t.1) few))

pub loop-worker-preserved : goal.loop-worker-preserved
loop-worker-preserved g c =
    let x = c.args.self.now in
    let l = c.loop-worker in
    let rows = rows_of l.rows in
    let row = spans_of c.make_row.new.row in
    record {
      rows = λ b tells. rw c.push.ensures (rows_more (rack_of x.plan.now) (g.C.Calendar.dates x.calendar.now) (g.O.Order.precedes x.order.now) b c.args.ticks c.args.group.now.workers.first l.worker rows row (l.invariant.rows b tells) (sym l.invariant.all) (c.make_row.ensures.row b tells));
      all = rw c.push.ensures (omega (arith, length_push rows row, l.invariant.all));
      scratch = c.make_row.ensures.scratch ∙ l.invariant.scratch;
    }

pub make_row-requires-clause-worker : goal.make_row-requires-clause-worker
make_row-requires-clause-worker g c =
    let l = c.loop-worker in
    let workers = inside_of c.args.self.now c.args.group.now c.requires.group in
    (omega (arith, workers.from_one, l.auto.worker), omega (arith, c.loop-worker-test.true, workers.within))

pub make_row-requires-clause-mirrored : goal.make_row-requires-clause-mirrored
make_row-requires-clause-mirrored g c =
    let x = c.args.self.now in
    let l = c.loop-worker in
    let workers = inside_of x c.args.group.now c.requires.group in
    ap (λ k. slice_index_or x.mirrored (k - 1) false) (sym (workers.inside l.worker (omega (arith, l.auto.worker)) (omega (arith, c.loop-worker-test.true))))
