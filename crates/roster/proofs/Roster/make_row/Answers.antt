use Rattle.std.proofs.Common.{◌≡◌, Bool, ◌∙◌, subst}
use Rattle.queue.specs.Queues.{things_of}
use Rattle.book.specs.Racks.{rack_of}
use Rattle.roster.specs.Spans.{spans_of}
use Rattle.roster.specs.Filling.{EndsOf}
use Rattle.roster.proofs.Reports.{lawful_over}
use Rattle.roster.proofs.RowsTold.{row_told}
use Rattle.roster.proofs.Groups.{worker_group}
use Rattle.roster.proofs.Roster.make_row.Goals as goal

pub returns-clause-row : goal.returns-clause-row
returns-clause-row g c = λ b tells.
    let x = c.args.self.now in
    let p = c.args.worker in
    let rack = rack_of x.plan.now in
    let lawful = lawful_over (g.met.C.Calendar.laws x.calendar.now) (g.met.O.Order.laws x.order.now) x.spaced in
    let flag : c.args.mirrored ≡ b.mirrored (rack.group p) = c.requires.mirrored ∙ tells.mirrored' (rack.group p) (worker_group x.plan.now p c.requires.worker.0 c.requires.worker.1) in
    let ends = subst (λ (m : Bool). EndsOf x.plan.now x.models.records m p c.args.ticks c.ends-ends.result) flag c.ends-ends.ensures in
    row_told b tells lawful p c.args.ticks c.requires.worker.0 c.requires.worker.1 c.ends-ends.result ends (things_of c.fill.new.queue) c.fill.ensures.holds (spans_of c.make.new.self) c.make.ensures.says
