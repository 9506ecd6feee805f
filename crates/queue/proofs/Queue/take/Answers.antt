use Rattle.std.proofs.Common.{arith}
use Rattle.order.proofs.Ranked.{ranked}
use Rattle.queue.proofs.Sifted.{unpreceded}
use Rattle.queue.proofs.Queue.take.Goals as goal

pub returns-clause-first : goal.returns-clause-first
returns-clause-first g c =
    let w = c.args.order.now in
    let q = c.args.self.now in
    λ h. unpreceded (g.O.Order.precedes w) (ranked (g.met.O.Order.laws w)) q.slots.now q.count _ (grind arith) (omega arith) h
