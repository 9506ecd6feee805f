use Rattle.std.proofs.Common.{◌≡◌, ◌-◌, ◌+◌, None, Some, ap, sym, ◌∙◌, subst, arith}
use Rattle.refusal.specs.Refusals.{told}
use Rattle.roster.proofs.Opening.{about_first, about_more, about_here}
use Rattle.roster.proofs.open.check.Goals as goal

pub loop-model-preserved : goal.loop-model-preserved
loop-model-preserved g c =
    let l = c.loop-model in
    let spacings = g.C.Calendar.spacings c.args.calendar.now in
    let next : l.model ≡ l.model + 1 - 1 = omega arith in
    subst (λ n. about_first c.args.plan.now spacings n ≡ None) next (about_more c.args.plan.now spacings l.model l.auto.model l.invariant (omega (arith, c.if-spacing-plan.false, c.spacing.ensures)))

pub returns-then-spacing-plan : goal.returns-then-spacing-plan
returns-then-spacing-plan g c =
    let l = c.loop-model in
    about_here c.args.plan.now (g.C.Calendar.spacings c.args.calendar.now) l.model l.auto.model c.loop-model-test.true l.invariant (omega (arith, c.if-spacing-plan.true, c.spacing.ensures)) ∙ ap (λ e. Some (told e)) (sym c.at.ensures)

pub returns : goal.returns
returns g c =
    let l = c.loop-model in
    let all : l.model - 1 ≡ c.args.plan.now.set.sizes.models = omega (arith, c.loop-model-test.false, l.auto.model-end c.args.plan.now.set.sizes.some_models) in
    (subst (λ n. about_first c.args.plan.now (g.C.Calendar.spacings c.args.calendar.now) n ≡ None) all l.invariant, tt)
