use Rattle.std.proofs.Common.{◌≡◌, ◌+◌, ◌<◌, ◌≤◌, length, set}
use Rattle.queue.specs.Heaps.{Heaped}
use Rattle.queue.specs.Queues.{slots_of, count_of}
use Rattle.queue.specs.Sifting.{Rearranged}
use Rattle.queue.proofs.Sifted.{Rising}
use Rattle.queue.proofs.Queue.rise.Given as goal

-- `there` is the list as it would be, were the thing written now
abbrev pub invariant-loop-hole : goal.invariant-loop-hole
invariant-loop-hole g l =
    let n = count_of l.initial.self in
    let there = set (slots_of l.self) l.hole l.thing in
    let pre = g.O.Order.precedes l.order in record {
      within : (l.hole ≤ n) × (n < length (slots_of l.self));
      counts : count_of l.self ≡ n;
      lent : l.self.slots.ghost_name ≡ l.initial.self.slots.ghost_name;
      things : Rearranged (n + 1) (set (slots_of l.initial.self) n l.thing) there;
      rising : Heaped pre (slots_of l.initial.self) n → Rising pre there l.hole (n + 1);
    }

abbrev pub decreases-loop-hole : goal.decreases-loop-hole
decreases-loop-hole g l = l.hole
