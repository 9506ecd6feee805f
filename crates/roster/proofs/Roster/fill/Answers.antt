use Rattle.std.proofs.Common.{◌≡◌, ◌+◌, subst, arith}
use Rattle.std.specs.Prelude.{slice_index}
use Rattle.std.specs.List.Sorted.{IsPermutation}
use Rattle.queue.specs.Queues.{things_of}
use Rattle.roster.specs.Waiting.{runs_of}
use Rattle.book.specs.Racks.{rack_of}
use Rattle.roster.specs.Filling.{waits_on, run_in}
use Rattle.roster.specs.Seating.{NextOn}
use Rattle.roster.proofs.Filling.{filled_none, filled_same, filled_more}
use Rattle.roster.proofs.Seats.{filled_to}
use Rattle.roster.proofs.Roster.fill.Goals as goal
use Rattle.roster.proofs.Roster.fill.Goals.{in-Some, in_default}

pub loop-slot-init : goal.loop-slot-init
loop-slot-init g c =
    let plan = c.args.self.now.plan.now in
    let records = c.args.self.now.models.records in
    let precedes = g.O.Order.precedes c.args.self.now.order.now in
    filled_to plan records (run_in plan records) precedes c.args.worker 0 _ c.args.queue.now c.args.queue.now
    (c.args.self.now.chained.starts c.args.worker (omega (arith, c.requires.worker, plan.set.sizes.few_workers)))
    (filled_none (waits_on plan records c.args.worker) (run_in plan records) precedes c.args.queue.now c.requires.empty)

pub loop-slot-preserved : goal.loop-slot-preserved
loop-slot-preserved g c =
    let l = c.loop-slot in
    let plan = c.args.self.now.plan.now in
    let records = c.args.self.now.models.records in
    let worker = c.args.worker in
    let takes = waits_on plan records worker in
    let run = run_in plan records in
    let precedes = g.O.Order.precedes c.args.self.now.order.now in
    let next : NextOn plan worker (l.slot + 1) (slice_index c.args.self.now.chains.nexts l.slot) = subst (λ p. NextOn plan p (l.slot + 1) (slice_index c.args.self.now.chains.nexts l.slot)) (l.invariant.here c.loop-slot-test.true) (c.args.self.now.chained.goes l.slot (omega arith) c.loop-slot-test.true) in
    filled_to plan records run precedes worker (l.slot + 1) _ c.args.queue.now _ next (elim c.match-waiting.branch [
      | in-Some w ↦ rw w.queue-is (filled_more takes run precedes c.args.queue.now l.slot l.queue l.invariant.filled w.put.new.self w.put.result w.in-Some.run' w.in-Some.ensures.0 w.in-Some.ensures.1 (omega (arith, c.loop-slot-test.true, plan.set.sizes.few_models)) c.requires.room w.put.ensures.puts w.put.ensures.full w.put.ensures.stays)
      | in_default w ↦ rw w.queue-is (filled_same takes run precedes c.args.queue.now l.slot l.queue l.invariant.filled w.in_default.ensures)
    ])

pub returns-clause-holds : goal.returns-clause-holds
returns-clause-holds g c =
    let l = c.loop-slot in
    let all : l.slot ≡ (rack_of c.args.self.now.plan.now).models = omega (arith, c.loop-slot-test.false, l.invariant.within) in
    subst (λ n. IsPermutation (runs_of (waits_on c.args.self.now.plan.now c.args.self.now.models.records c.args.worker) (run_in c.args.self.now.plan.now c.args.self.now.models.records) n) (things_of l.queue)) all l.invariant.filled.holds
