-- Calls on a roster are steps of the book.
use Rattle.std.proofs.Common.{◌≡◌, ℕ, ◌∙◌}
use Rattle.kinds.specs.declared.runs.Run.{Run}
use Rattle.plan.specs.declared.plans.Plan.{Plan}
use Rattle.calendar.specs.declared.Calendar.{Ghosts as CalendarMeaning}
use Rattle.order.specs.declared.Order.{Ghosts as OrderMeaning}
use Rattle.order.specs.declared.Thing.{Ghosts as ThingMeaning}
use Rattle.book.specs.Racks.{rack_of}
use Rattle.book.specs.Books.{Book}
use Rattle.book.specs.Calls.{Call, Advance, Withdraw, Answer as Given, Step}
use Rattle.roster.specs.declared.Roster.{Roster}
use Rattle.roster.specs.Keeping.{Keeps, Opened}
use Rattle.season.specs.Asking.{IsAnswer}
use Rattle.callers.specs.declared.Kept.{Kept}
use Rattle.callers.specs.Knowing.{IsKept}
use Rattle.callers.proofs.Steps.{Steps}

module _ {C O : Type 0} {calendar : CalendarMeaning C} {order : OrderMeaning O Run} {thing : ThingMeaning Run} {plan : Plan} {c : C} {o : O} where
  pub steps : {v w x y z : Roster C O calendar order thing} {before after : ℕ} {kept : Kept}
      → Opened plan c o v → Keeps v (Withdraw before) (IsAnswer kept.withdrawal) w → Keeps w (Advance 1 512 64) (IsKept kept.first) x
      → Keeps x (Advance 1 512 64) (IsKept kept.second) y → Keeps y (Withdraw after) (IsAnswer kept.last_withdrawal) z
      → Steps plan (calendar.dates c) (order.precedes o) before after kept
  steps opened k l m n =
      let e = k.goes opened in
      let f = l.goes e.at in
      let g = m.goes f.at in
      let h = n.goes g.at in
      record {
        one = e.after;
        two = f.after;
        three = g.after;
        end = h.after;
        answers = (e.answer, f.answer, g.answer, h.answer);
        first_step = e.step;
        second_step = f.step;
        third_step = g.step;
        last_step = h.step;
        withdrawal' = e.gives';
        first' = f.gives';
        second' = g.gives';
        last_withdrawal' = h.gives';
      }
