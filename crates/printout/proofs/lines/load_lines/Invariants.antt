use Rattle.printout.specs.Texts.{load_text}
use Rattle.printout.proofs.Counts.{Written}
use Rattle.printout.proofs.lines.load_lines.Given as goal

abbrev pub invariant-loop-p : goal.invariant-loop-p
invariant-loop-p l = Written (load_text l.plan) l.plan.set.sizes.workers l.p l.initial.page l.page
