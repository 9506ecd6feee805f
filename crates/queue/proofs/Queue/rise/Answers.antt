use Rattle.std.proofs.Common.{◌+◌, ◌-◌, ◌/◌, get_or, set, arith}
use Rattle.std.proofs.lemmas.List.{length-set}
use Rattle.order.proofs.Ranked.{ranked}
use Rattle.queue.proofs.Holes.{Rearranged-moves}
use Rattle.queue.proofs.Sifted.{rise_turn}
use Rattle.queue.proofs.Queue.rise.Goals as goal

pub loop-hole-preserved : goal.loop-hole-preserved
loop-hole-preserved g c =
    let n = c.args.self.now.count in
    let x = c.args.thing in
    let w = c.args.order.now in
    let l = c.loop-hole in
    let s = l.self.slots.now in
    let up = (l.hole - 1) / 2 in
    let d = c.index-self-up.result in
    record {
      within = (omega arith, omega (arith, length-set s l.hole (get_or s up d)));
      counts = l.invariant.counts;
      lent = l.invariant.lent;
      things = Rearranged-moves (n + 1) (set c.args.self.now.slots.now n x) s l.hole up x d (omega arith) (omega arith) (omega arith) (omega arith) l.invariant.things;
      rising = λ h. rise_turn (g.O.Order.precedes w) (ranked (g.met.O.Order.laws w)) s l.hole n x d (omega arith) (omega arith) (omega arith) c.if-not-before.ensures (l.invariant.rising h);
    }
