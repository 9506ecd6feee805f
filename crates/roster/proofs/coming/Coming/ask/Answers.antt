use Rattle.std.proofs.Common.{refl, sym, ◌∙◌, arith}
use Rattle.std.proofs.lemmas.Bool.{eqb-false}
use Rattle.book.proofs.Racks.{within_both}
use Rattle.roster.proofs.Asking.{asked_none, asked_more, asked_skip}
use Rattle.roster.proofs.coming.Coming.ask.Goals as goal
use Rattle.roster.proofs.coming.Coming.ask.Goals.{then-runs, else-runs}

pub loop-slot-init : goal.loop-slot-init
loop-slot-init g c = asked_none _ _ _ _ _ _ refl

pub loop-slot-preserved : goal.loop-slot-preserved
loop-slot-preserved g c =
    let l = c.loop-slot in
    let a = c.args in
    let dates = g.C.Calendar.dates a.calendar.now in
    elim c.if-runs.branch [
      | then-runs w ↦ rw w.dates-is (asked_more a.group.now.plan.now dates a.models.now.records a.group.now.number a.from l.slot l.dates _ w.phase-phase.result w.earliest.result (omega (arith, c.loop-slot-test.true, a.group.now.plan.now.set.sizes.few_models)) w.phase-phase.ensures w.earliest.ensures refl l.invariant)
      | else-runs w ↦ rw w.dates-is (asked_skip a.group.now.plan.now dates a.models.now.records a.group.now.number a.from l.slot l.dates (eqb-false _ _ (sym (c.runs.ensures) ∙ w.if-runs.false)) l.invariant)
    ]

pub returns : goal.returns
returns g c =
    let plan = c.args.group.now.plan.now in
    λ i model same kept.
    let w = within_both 1 plan.set.sizes.models i model in
    c.loop-slot.invariant.asked i w.0 (omega (arith, c.loop-slot-test.false, w.1)) same kept
