use Rattle.std.proofs.Common.{◌≡◌, ◌+◌, length, get_or, None}
use Rattle.refusal.specs.Refusals.{first_below}
use Rattle.set.specs.Limits.{about_model}
use Rattle.set.proofs.figures.Figures.check_models.Given as goal

-- no model so far is at fault
abbrev pub invariant-loop-i : goal.invariant-loop-i
invariant-loop-i l = first_below (λ i. about_model l.self.grain (i + 1) (get_or l.self.costs.now i 0) (get_or l.self.periods.now i 0)) (length l.yielded) ≡ None
