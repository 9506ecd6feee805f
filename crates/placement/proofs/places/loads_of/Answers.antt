use Rattle.std.proofs.Common.{◌+◌, length, arith}
use Rattle.set.proofs.Blanks.{get_or_blank}
use Rattle.plan.specs.Shares.{pieces_at}
use Rattle.placement.proofs.Carries.{carried_more, carried_rises}
use Rattle.placement.proofs.places.loads_of.Goals as goal

pub loop-model_pieces-init : goal.loop-model_pieces-init
loop-model_pieces-init c p h = get_or_blank 32 p 0

pub add_pieces-more-requires : goal.add_pieces-more-requires
add_pieces-more-requires c =
    let pieces = pieces_at c.args.pieces.now in
    let i = c.loop-model_pieces.model_pieces-index in
    record {
      first = (c.requires.within i (omega arith)).0;
      last = (c.requires.within i (omega arith)).1;
      room = λ p h. omega (arith, c.loop-model_pieces.invariant p h, carried_more pieces (p + 1) i, carried_rises pieces (p + 1) (length c.args.pieces.now) (i + 1) (omega arith), c.requires.room (p + 1));
    }
