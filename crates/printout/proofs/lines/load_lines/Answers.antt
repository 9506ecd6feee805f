use Rattle.std.proofs.Common.{ℕ, List, [], ◌∷◌, codes, arith}
use Rattle.printout.specs.Lines.{line_of}
use Rattle.printout.proofs.Counts.{row_fits, row_more, rows_all}
use Rattle.printout.proofs.lines.load_lines.Goals as goal

abbrev line : ℕ → ℕ → List ℕ
line worker load = line_of (codes "load") (worker ∷ (load ∷ []))

pub line-requires : goal.line-requires
line-requires c =
    let plan = c.args.plan.now in
    row_fits line 0 plan.loads plan.set.sizes.workers (omega arith) c.loop-p.p _ _ c.loop-p.invariant c.loop-p-test.true c.requires

pub loop-p-preserved : goal.loop-p-preserved
loop-p-preserved c =
    let plan = c.args.plan.now in
    row_more line 0 plan.loads plan.set.sizes.workers (omega arith) c.loop-p.p _ _ c.loop-p.invariant c.loop-p-test.true _ c.line.ensures

pub returns : goal.returns
returns c =
    let plan = c.args.plan.now in
    rows_all line 0 plan.loads plan.set.sizes.workers (omega arith) c.loop-p.p _ _ c.loop-p.invariant c.loop-p-test.false
