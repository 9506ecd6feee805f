use Rattle.printout.specs.Texts.{model_text}
use Rattle.printout.proofs.Counts.{Written}
use Rattle.printout.proofs.lines.model_lines.Given as goal

abbrev pub invariant-loop-i : goal.invariant-loop-i
invariant-loop-i l = Written (model_text l.plan) l.plan.set.sizes.models l.i l.initial.page l.page
