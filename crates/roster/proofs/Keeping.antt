-- From what a call does at each book of a roster to what it keeps.
use Rattle.std.proofs.Common.{◌≡◌, ◌∙◌}
use Rattle.kinds.specs.declared.runs.Run.{Run}
use Rattle.calendar.specs.declared.Calendar.{Ghosts as CalendarMeaning}
use Rattle.order.specs.declared.Order.{Ghosts as OrderMeaning}
use Rattle.order.specs.declared.Thing.{Ghosts as ThingMeaning}
use Rattle.book.specs.Racks.{rack_of}
use Rattle.book.specs.Books.{Book}
use Rattle.book.specs.Calls.{Call, Answer, Step}
use Rattle.roster.specs.declared.Roster.{Roster}
use Rattle.roster.specs.Keeping.{IsBookOf, Keeps}

module _ {C O : Type 0} {calendar : CalendarMeaning C} {order : OrderMeaning O Run} {thing : ThingMeaning Run} where
  -- a call at a book, over what the roster itself is over
  pub record Makes (x : Roster C O calendar order thing) (b : Book) (call : Call) (gives : Answer → Type 0) (y : Roster C O calendar order thing) : Type 0 where
    pub answer : Answer
    pub after : Book
    pub step : Step (rack_of x.plan.now) (calendar.dates x.calendar.now) (order.precedes x.order.now) b call answer after
    pub gives' : gives answer
    pub is : IsBookOf y after

  pub keeps_so : {x y : Roster C O calendar order thing} {call : Call} {gives : Answer → Type 0} → y.plan.now ≡ x.plan.now → y.calendar.now ≡ x.calendar.now → y.order.now ≡ x.order.now
      → ((b : Book) → IsBookOf x b → Makes x b call gives y) → Keeps x call gives y
  keeps_so p q r makes = record {
    goes = λ {plan} {c} {o} {b} at.
        let w = makes b at.is in
        record {
          answer = w.answer;
          after = w.after;
          step = rw (at.plan', at.calendar', at.order') at w.step;
          gives' = w.gives';
          at = record { plan' = p ∙ at.plan'; calendar' = q ∙ at.calendar'; order' = r ∙ at.order'; is = w.is };
        };
  }
