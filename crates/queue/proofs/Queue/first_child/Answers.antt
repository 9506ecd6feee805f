use Rattle.std.proofs.Common.{arith}
use Rattle.order.proofs.Ranked.{ranked}
use Rattle.queue.proofs.Sifted.{only_child, left_child, right_child}
use Rattle.queue.proofs.Queue.first_child.Goals as goal

pub returns-then-before : goal.returns-then-before
returns-then-before g c =
    let w = c.args.order.now in
    right_child (g.O.Order.precedes w) (ranked (g.met.O.Order.laws w)) _ c.args.parent c.args.left c.index-self-child.result c.index-self-child-then-child-left.result (omega arith) c.requires.room c.if-before.ensures

pub returns-else-before : goal.returns-else-before
returns-else-before g c =
    let w = c.args.order.now in
    left_child (g.O.Order.precedes w) (ranked (g.met.O.Order.laws w)) _ c.args.parent c.args.left c.index-self-child.result c.index-self-child-then-child-left.result (omega arith) c.requires.room c.if-before.ensures

pub returns-else-child-left : goal.returns-else-child-left
returns-else-child-left g c =
    let w = c.args.order.now in
    only_child (g.O.Order.precedes w) (ranked (g.met.O.Order.laws w)) _ c.args.parent c.args.left (omega arith) (omega arith)
