use Rattle.std.proofs.Common.{◌≡◌, ◌-◌, ◌<◌, ◌≤◌, length, set}
use Rattle.queue.specs.Heaps.{Heaped}
use Rattle.queue.specs.Queues.{slots_of, count_of}
use Rattle.queue.specs.Sifting.{Rearranged}
use Rattle.queue.proofs.Sifted.{Sinking}
use Rattle.queue.proofs.Queue.sink.Given as goal

-- `there` is the list as it would be, were the thing written now
abbrev pub invariant-loop-hole : goal.invariant-loop-hole
invariant-loop-hole g l =
    let there = set (slots_of l.self) l.hole l.thing in
    let pre = g.O.Order.precedes l.order in record {
      within : (l.hole ≤ l.left) × (l.left < length (slots_of l.self));
      counts : count_of l.self ≡ count_of l.initial.self;
      lent : l.self.slots.ghost_name ≡ l.initial.self.slots.ghost_name;
      things : Rearranged l.left (set (slots_of l.initial.self) 0 l.thing) there;
      sinking : Heaped pre (slots_of l.initial.self) l.left → Sinking pre there l.hole l.left;
    }

abbrev pub decreases-loop-hole : goal.decreases-loop-hole
decreases-loop-hole g l = l.left - l.hole
