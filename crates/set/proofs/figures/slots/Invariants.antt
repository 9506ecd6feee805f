use Rattle.std.proofs.Common.{length}
use Rattle.set.proofs.Slots.{Filled}
use Rattle.set.proofs.figures.slots.Given as goal

abbrev pub invariant-loop-i : goal.invariant-loop-i
invariant-loop-i l = Filled l.costs l.periods 64 (length l.yielded) l.models
