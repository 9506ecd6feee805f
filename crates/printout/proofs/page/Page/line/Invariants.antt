use Rattle.std.proofs.Common.{[], ◌∷◌, ◌++◌, drop}
use Rattle.std.specs.List.{flat_map}
use Rattle.printout.specs.Lines.{spaced, line_of}
use Rattle.printout.proofs.Begun.{Begun}
use Rattle.printout.proofs.page.Page.line.Given as goal

abbrev pub invariant-loop-n : goal.invariant-loop-n
invariant-loop-n l = Begun l.fn.self (line_of l.tag l.numbers) (flat_map spaced (drop l.n-index l.numbers) ++ (10 ∷ [])) l.self
