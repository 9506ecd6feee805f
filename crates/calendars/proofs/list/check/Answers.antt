use Rattle.std.proofs.Common.{◌≡◌, length, arith, rules}
use Rattle.std.proofs.lemmas.Grind.{common_steps}
use Rattle.dates.proofs.Checks.{checked_none, checked_more, misfit}
use Rattle.calendars.proofs.list.check.Goals as goal
use Rattle.calendars.proofs.list.check.Goals.{then-entry-past-via-then-entry-past, then-entry-past-via-else-entry-past+then-entry-ge-END, then-entry-past-via-else-entry-past+else-entry-ge-END+then-not-is_model}

pub loop-i-init : goal.loop-i-init
loop-i-init c = checked_none _ _

pub returns-then-entry-past : goal.returns-then-entry-past
returns-then-entry-past c =
    rw (c.at-misfit.ensures)
    (misfit _ _ _ _ _ c.loop-i.invariant (omega arith)
    (λ may. let known = may.known in let branch = c.then-entry-past.branch in grind (arith, common_steps)))

pub returns-then-entry-least : goal.returns-then-entry-least
returns-then-entry-least c =
    rw (c.at-misfit.ensures)
    (misfit _ _ _ _ _ c.loop-i.invariant (omega arith) (λ may. omega (arith, may.far)))

pub loop-i-preserved : goal.loop-i-preserved
loop-i-preserved c =
    let wide : length c.args.spacings.now ≡ 64 = search rules in
    checked_more _ _ _ _ _ c.loop-i.invariant (omega arith) wide record {
      order = omega arith;
      early = omega arith;
      known = grind (arith, common_steps);
      far = omega arith;
    }
