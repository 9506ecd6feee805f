use Rattle.std.proofs.Common.{◌≡◌, ◌+◌, ◌-◌, min, refl, ap, arith}
use Rattle.std.proofs.lemmas.List.{length-take}
use Rattle.queue.proofs.Stays.{stays_on}
use Rattle.queue.specs.Queues.{things_of, count_of}
use Rattle.roster.proofs.Lineups.{taken_none, taken_more, turn_is, taken_all, taken_full}
use Rattle.roster.proofs.sheet.row.Row.take_turns.Goals as goal

pub loop-reached-init : goal.loop-reached-init
loop-reached-init g c = record {
  taken = taken_none (g.O.Order.precedes c.args.order.now) (things_of c.args.queue.now) c.args.at c.args.closes c.requires.forward;
  says = λ has turns says. says;
  room = omega arith;
  few = omega arith;
  stays = record { room = refl; behind = refl; keeps = λ h. h; lent = refl };
}

pub loop-reached-preserved : goal.loop-reached-preserved
loop-reached-preserved g c =
    let l = c.loop-reached in
    let order = g.met.O.Order.laws c.args.order.now in
    let precedes = g.O.Order.precedes c.args.order.now in
    let all = things_of c.args.queue.now in
    let held = things_of l.queue in
    let rest = things_of c.take.new.self in
    let r = c.in-Some.run' in
    let took = c.in-Some.ensures.takes in
    let none = c.in-Some.ensures.first (l.invariant.stays.keeps c.requires.ordered) in
    let end : l.reached + c.min.result ≡ l.reached + min r.remaining (c.args.closes - l.reached) = ap (λ n. l.reached + n) c.min.ensures in
    record {
      taken = taken_more order all held rest r c.args.at c.args.closes l.reached (l.reached + c.min.result) l.invariant.taken took.holds none end;
      says = λ has turns says. c.reach.ensures.says has (turn_is order all held rest r c.args.at c.args.closes l.reached (l.reached + c.min.result) l.invariant.taken took.holds none end has turns) (l.invariant.says has turns says);
      few = omega (arith, took.counts, l.invariant.few);
      room = omega (arith, c.reach.ensures.few, took.counts, l.invariant.room);
      stays = stays_on precedes (count_of c.args.queue.now) (count_of c.take.new.self) c.args.queue.now l.queue c.take.new.self (omega (arith, took.counts, l.invariant.few)) l.invariant.stays c.take.ensures.stays;
    }

pub returns-in_default-clause-ends : goal.returns-in_default-clause-ends
returns-in_default-clause-ends g c =
    let l = c.loop-reached in
    taken_all (g.O.Order.precedes c.args.order.now) (things_of c.args.queue.now) (things_of l.queue) c.args.at c.args.closes l.reached l.invariant.taken (omega (arith, c.in_default.ensures.empty, length-take (count_of l.queue) l.queue.slots.now))

pub returns-after-loop-reached-clause-ends : goal.returns-after-loop-reached-clause-ends
returns-after-loop-reached-clause-ends g c =
    let l = c.loop-reached in
    taken_full (g.O.Order.precedes c.args.order.now) (things_of c.args.queue.now) (things_of l.queue) c.args.at c.args.closes l.reached l.invariant.taken c.loop-reached-test.false
