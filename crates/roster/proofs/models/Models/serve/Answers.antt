use Rattle.std.proofs.Common.{◌+◌}
use Rattle.roster.proofs.Serving.{next_row, rises_next, give_next, others_add, no_rows_give, serves_on, room_on, room_first, serves_all}
use Rattle.roster.proofs.models.Models.serve.Goals as goal

pub serve_row-requires : goal.serve_row-requires
serve_row-requires c =
    let l = c.loop-size in
    let s = c.split_at in
    let next = next_row (c.sizes-sizes.result.now) l.size-index c.loop-size-test.true l.spans.now s.result.0.now s.result.1.now s.ensures.front s.ensures.back in
    record {
      rises = (rises_next next l.invariant.rises).0;
      room = λ k h. room_first _ _ _ _ _ (l.invariant.room k h) (give_next next (k + 1));
    }

pub loop-size-preserved : goal.loop-size-preserved
loop-size-preserved c =
    let l = c.loop-size in
    let s = c.split_at in
    let sizes = c.sizes-sizes.result.now in
    let next = next_row sizes l.size-index c.loop-size-test.true l.spans.now s.result.0.now s.result.1.now s.ensures.front s.ensures.back in
    record {
      adds = others_add sizes l.size-index c.loop-size-test.true l.spans.now s.result.1.now s.ensures.back l.invariant.adds;
      rises = (rises_next next l.invariant.rises).1;
      room = λ k h. room_on _ _ _ _ _ _ (l.invariant.room k h) (give_next next (k + 1)) (c.serve_row.ensures k h);
      serves = λ k h. serves_on _ _ _ _ _ _ (l.invariant.serves k h) (give_next next (k + 1)) (c.serve_row.ensures k h);
    }

pub returns : goal.returns
returns c = λ k h. serves_all _ _ _ (c.loop-size.invariant.serves k h) (no_rows_give (c.sizes-sizes.result.now) c.loop-size.size-index c.loop-size.spans.now c.loop-size-test.false (k + 1))
