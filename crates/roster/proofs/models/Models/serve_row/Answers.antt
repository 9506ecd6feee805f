use Rattle.std.proofs.Common.{◌+◌, arith}
use Rattle.roster.specs.declared.sheet.span.Span.{Span}
use Rattle.roster.proofs.Serving.{next_rises, next_gives, none_gives, serves_on, room_on, room_first, serves_all}
use Rattle.roster.proofs.models.Models.serve_row.Goals as goal

abbrev none : Span
none = record { end = 0; model = 0 }

pub overflow_sub-span : goal.overflow_sub-span
overflow_sub-span c = omega (arith, next_rises c.args.row.now c.loop-span.span-index c.loop-span.start none c.loop-span-test.true c.loop-span.invariant.rises)

pub give-requires : goal.give-requires
give-requires c =
    let l = c.loop-span in
    let rises = next_rises c.args.row.now l.span-index l.start none c.loop-span-test.true l.invariant.rises in
    record {
      small = rises.1;
      some = omega (arith, rises.0);
      room = λ k h. room_first _ _ _ _ _ (l.invariant.room k h) (next_gives c.args.row.now l.span-index l.start none c.loop-span-test.true (k + 1));
    }

pub loop-span-preserved : goal.loop-span-preserved
loop-span-preserved c =
    let l = c.loop-span in
    record {
      rises = (next_rises c.args.row.now l.span-index l.start none c.loop-span-test.true l.invariant.rises).2;
      room = λ k h. room_on _ _ _ _ _ _ (l.invariant.room k h) (next_gives c.args.row.now l.span-index l.start none c.loop-span-test.true (k + 1)) (c.give.ensures k h);
      serves = λ k h. serves_on _ _ _ _ _ _ (l.invariant.serves k h) (next_gives c.args.row.now l.span-index l.start none c.loop-span-test.true (k + 1)) (c.give.ensures k h);
    }

pub returns : goal.returns
returns c = λ k h. serves_all _ _ _ (c.loop-span.invariant.serves k h) (none_gives c.args.row.now c.loop-span.span-index c.loop-span.start c.loop-span-test.false (k + 1))
