use Rattle.std.proofs.Common.{◌<◌, ◌≤◌, ◌*◌, ◌+◌, get_or, set, arith}
use Rattle.std.proofs.lemmas.List.{length-set}
use Rattle.order.proofs.Ranked.{ranked}
use Rattle.queue.proofs.Holes.{Rearranged-moves}
use Rattle.queue.proofs.Sifted.{sink_turn, sink_stops, sink_ends}
use Rattle.queue.proofs.Queue.sink.Goals as goal
use Rattle.queue.proofs.Queue.sink.Goals.{else-loop-hole-test, then-loop-hole-test+then-not-before}

pub loop-hole-preserved : goal.loop-hole-preserved
loop-hole-preserved g c =
    let left = c.args.left in
    let x = c.args.thing in
    let w = c.args.order.now in
    let l = c.loop-hole in
    let s = l.self.slots.now in
    let u = c.first_child-child.result in
    let d = c.index-self-child.result in
    let child = c.first_child-child.ensures in
    let from : l.hole * 2 + 1 ≤ u = child.from in
    let within : u < left = child.within in
    record {
      within = (omega arith, omega (arith, length-set s l.hole (get_or s u d)));
      counts = l.invariant.counts;
      lent = l.invariant.lent;
      things = Rearranged-moves left (set c.args.self.now.slots.now 0 x) s l.hole u x d (omega arith) (omega arith) (omega arith) (omega arith) l.invariant.things;
      sinking = λ h. sink_turn (g.O.Order.precedes w) (ranked (g.met.O.Order.laws w)) s l.hole u left x d (omega arith) child c.if-not-before.ensures (l.invariant.sinking h);
    }

pub returns-clause-ordered : goal.returns-clause-ordered
returns-clause-ordered g c =
    let left = c.args.left in
    let w = c.args.order.now in
    let l = c.loop-hole in
    let s = l.self.slots.now in
    let pre = g.O.Order.precedes w in
    λ h. elim c.loop-hole-test.branch [
      | else-loop-hole-test v ↦ sink_ends pre (set s l.hole c.args.thing) l.hole left (omega arith) (l.invariant.sinking h)
      | then-loop-hole-test+then-not-before v ↦ sink_stops pre (ranked (g.met.O.Order.laws w)) s l.hole v.first_child-child.result left c.args.thing v.index-self-child.result (omega arith) v.first_child-child.ensures v.if-not-before.ensures (l.invariant.sinking h)
    ]
