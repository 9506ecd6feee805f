use Rattle.std.proofs.Common.{◌≡◌, sym, ◌∙◌, subst, arith}
use Rattle.std.proofs.lemmas.Bool.{eqb-true, eqb-false}
use Rattle.roster.specs.Coming.{dates_in}
use Rattle.roster.proofs.Settling.{date_here, settled_none, settled_more, settled_skip, settled_all, SettledFirst}
use Rattle.roster.proofs.coming.Coming.settle.Goals as goal
use Rattle.roster.proofs.coming.Coming.settle.Goals.{then-runs, else-runs}

pub loop-slot-init : goal.loop-slot-init
loop-slot-init c = settled_none _ _ _ _ _

pub loop-slot-preserved : goal.loop-slot-preserved
loop-slot-preserved c =
    let plan = c.args.group.now.plan.now in
    let dates = dates_in c.args.self.now.dates in
    let old = c.args.models.now.records in
    let l = c.loop-slot in
    elim c.if-runs.branch [
      | then-runs w ↦ rw w.models-is (settled_more plan dates c.args.group.now.number c.args.tick old l.slot l.models.records w.settle.new.self.records w.eq-dated.result (omega (arith, c.loop-slot-test.true, plan.set.sizes.few_models, c.args.models.now.full)) (eqb-true _ _ (sym (c.runs.ensures) ∙ w.if-runs.true)) (date_here c.args.self.now.dates l.slot c.args.tick w.eq-dated.result w.eq-dated.ensures) w.settle.ensures l.invariant)
      | else-runs w ↦ rw w.models-is (settled_skip plan dates c.args.group.now.number c.args.tick old l.slot l.models.records (eqb-false _ _ (sym (c.runs.ensures) ∙ w.if-runs.false)) l.invariant)
    ]

pub returns : goal.returns
returns c =
    let plan = c.args.group.now.plan.now in
    let l = c.loop-slot in
    let all : l.slot ≡ plan.set.sizes.models = omega (arith, c.loop-slot-test.false, l.auto.slot-end) in
    let dates = dates_in c.args.self.now.dates in
    settled_all plan dates c.args.group.now.number c.args.tick c.args.models.now.records l.models.records (subst (λ n. SettledFirst plan dates c.args.group.now.number c.args.tick c.args.models.now.records n l.models.records) all l.invariant)
