use Rattle.std.proofs.Common.{◌+◌, sym, ◌∙◌, arith}
use Rattle.std.specs.Bool.{IsTrue}
use Rattle.std.proofs.lemmas.Bool.{and_from, le-leb}
use Rattle.book.specs.Racks.{rack_of}
use Rattle.book.specs.Books.{is_model_of}
use Rattle.book.proofs.Racks.{within_both}
use Rattle.roster.proofs.Opening.{started_dated, started_undated}
use Rattle.roster.proofs.open.start.Goals as goal
use Rattle.roster.proofs.open.start.Goals.{then-is_date, else-is_date}

pub loop-slot-init : goal.loop-slot-init
loop-slot-init g c = record { done = λ i some last. absurd (omega arith); rest = λ k l. c.new-models.ensures k }

pub loop-slot-preserved : goal.loop-slot-preserved
loop-slot-preserved g c =
    let plan = c.args.plan.now in
    let dates = g.C.Calendar.dates c.args.calendar.now in
    let l = c.loop-slot in
    let n = l.slot in
    let model : IsTrue (is_model_of (rack_of plan) (n + 1)) = and_from _ _ (le-leb 1 (n + 1) (omega arith)) (le-leb (n + 1) plan.set.sizes.models (omega (arith, c.loop-slot-test.true))) in
    elim c.if-is_date.branch [
      | then-is_date w ↦ rw w.models-is (started_dated plan dates n l.models.records w.meet.new.self.records (omega (arith, c.loop-slot-test.true, plan.set.sizes.few_models)) l.models.full model (sym c.is_date.ensures ∙ w.if-is_date.true) w.meet.ensures l.invariant)
      | else-is_date w ↦ rw w.models-is (started_undated plan dates n l.models.records (sym c.is_date.ensures ∙ w.if-is_date.false) l.invariant)
    ]

pub returns : goal.returns
returns g c = λ i model.
    let w = within_both 1 (rack_of c.args.plan.now).models i model in
    c.loop-slot.invariant.done i w.0 (omega (arith, c.loop-slot-test.false, w.1))
