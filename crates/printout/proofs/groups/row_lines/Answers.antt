use Rattle.std.proofs.Common.{◌≡◌, ◌+◌, ◌∙◌, arith}
use Rattle.printout.proofs.Sheets.{sizes_are, spans_are, rows_begin, rows_some, rows_more, rows_end, row_fits', ends_left, models_left}
use Rattle.printout.proofs.groups.row_lines.Goals as goal

pub loop-k-init : goal.loop-k-init
loop-k-init c =
    let w = c.requires.whole in
    let sizes = c.split_at.ensures.front ∙ sizes_are w in
    let spans = c.split_at.ensures.back ∙ spans_are w in
    let first : c.args.first + 0 ≡ c.args.first = omega arith in
    rw (sizes, spans, first) (rows_begin w c.args.first c.requires.room)

pub split_at-requires-in-loop-k : goal.split_at-requires-in-loop-k
split_at-requires-in-loop-k c = ends_left (rows_some _ _ c.loop-k-test.true c.loop-k.invariant)

pub split_at-requires-in-loop-k-2 : goal.split_at-requires-in-loop-k-2
split_at-requires-in-loop-k-2 c = models_left (rows_some _ _ c.loop-k-test.true c.loop-k.invariant)

pub row_line-requires-clause-room : goal.row_line-requires-clause-room
row_line-requires-clause-room c =
    rw (c.split_at-in-loop-k.ensures.front, c.split_at-in-loop-k-2.ensures.front) (row_fits' (rows_some _ _ c.loop-k-test.true c.loop-k.invariant) c.requires.room)

pub loop-k-preserved : goal.loop-k-preserved
loop-k-preserved c =
    let line = rw (c.split_at-in-loop-k.ensures.front, c.split_at-in-loop-k-2.ensures.front) at c.row_line.ensures in
    let next : c.args.first + (c.loop-k.k + 1) ≡ c.args.first + c.loop-k.k + 1 = omega arith in
    rw (next, c.split_at-in-loop-k.ensures.back, c.split_at-in-loop-k-2.ensures.back) (rows_more (rows_some _ _ c.loop-k-test.true c.loop-k.invariant) line)

pub returns : goal.returns
returns c = rows_end _ _ c.loop-k-test.false c.loop-k.invariant
