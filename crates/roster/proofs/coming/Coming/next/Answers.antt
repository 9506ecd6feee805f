use Rattle.std.proofs.Common.{◌≡◌, ◌+◌, ◌-◌, ◌<◌, sym, ◌∙◌, subst, arith}
use Rattle.std.specs.Bool.{IsTrue}
use Rattle.std.proofs.lemmas.Bool.{and_from, le-leb, eqb-true}
use Rattle.set.specs.Sets.{period_of}
use Rattle.book.specs.Racks.{rack_of}
use Rattle.book.specs.Books.{is_model_of}
use Rattle.roster.specs.Records.{phase_at}
use Rattle.roster.specs.Coming.{deadline_in}
use Rattle.roster.proofs.Asking.{next_more, next_skip}
use Rattle.roster.proofs.coming.Coming.next.Goals as goal
use Rattle.roster.proofs.coming.Coming.next.Goals.{then-runs, else-runs}

pub moment-requires : goal.moment-requires
moment-requires c =
    let l = c.loop-slot in
    let a = c.args in
    let plan = a.group.now.plan.now in
    let records = a.models.now.records in
    let e : l.slot + 1 - 1 ≡ l.slot = omega arith in
    let model : IsTrue (is_model_of (rack_of plan) (l.slot + 1)) = and_from _ _ (le-leb 1 (l.slot + 1) (omega arith)) (le-leb (l.slot + 1) (rack_of plan).models (omega (arith, c.loop-slot-test.true))) in
    let same = eqb-true _ _ (sym (c.runs.ensures) ∙ c.if-runs.true) in
    rw c.phase-phase.ensures (subst (λ k. deadline_in (period_of plan.set k) (phase_at records k) < 4294967296) e (c.requires.fits (l.slot + 1) model same))

pub loop-slot-preserved : goal.loop-slot-preserved
loop-slot-preserved c =
    let l = c.loop-slot in
    let a = c.args in
    elim c.if-runs.branch [
      | then-runs w ↦ w.next-is ∙ w.earlier-next.ensures ∙ next_more a.group.now.plan.now a.models.now.records a.self.now.dates a.group.now.number l.slot l.next l.invariant w.phase-phase.result w.moment.result w.phase-phase.ensures w.moment.ensures (sym (c.runs.ensures) ∙ w.if-runs.true)
      | else-runs w ↦ w.next-is ∙ next_skip a.group.now.plan.now a.models.now.records a.self.now.dates a.group.now.number l.slot l.next l.invariant (sym (c.runs.ensures) ∙ w.if-runs.false)
    ]
