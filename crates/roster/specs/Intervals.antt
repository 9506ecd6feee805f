-- What the parts of an advance say of whatever book is a roster's; no public contract speaks of it.
use Rattle.std.specs.Prelude.{◌≡◌, ℕ, ◌+◌, ◌-◌, ◌≤◌, List, Option, slice_index}
use Rattle.kinds.specs.declared.runs.Run.{Run}
use Rattle.calendar.specs.declared.Calendar.{Ghosts as CalendarMeaning}
use Rattle.order.specs.declared.Order.{Ghosts as OrderMeaning}
use Rattle.order.specs.declared.Thing.{Ghosts as ThingMeaning}
use Rattle.book.specs.Racks.{rack_of}
use Rattle.book.specs.Sheets.{Row}
use Rattle.book.specs.Books.{Book, is_moment}
use Rattle.book.specs.Turns.{IsRow, AreRows}
use Rattle.roster.specs.declared.Roster.{Roster}
use Rattle.roster.specs.declared.group.Group.{Group}
use Rattle.roster.specs.Keeping.{IsBookOf}
use Rattle.roster.specs.Advancing.{Soonest}
use Rattle.roster.specs.Coming.{Comes}

module _ {C O : Type 0} {calendar : CalendarMeaning C} {order : OrderMeaning O Run} {thing : ThingMeaning Run} (x : Roster C O calendar order thing) where
  -- it is a group of the roster's plan, and has a slot in its tables
  pub record IsGroupOf (group : Group) : Type 0 where
    pub plan' : group.plan.now ≡ x.plan.now
    pub some : 1 ≤ group.number
    pub few : group.number ≤ 32

  -- the table has the earliest dates after the present of group g
  abbrev pub ComesTo : (g : ℕ) → List (Option ℕ) → Type 0
  ComesTo g table = Comes x.plan.now (calendar.dates x.calendar.now) x.models.records g (slice_index x.presents (g - 1) + 1) table

  -- this is the next moment of group g
  abbrev pub IsNextMoment : (g : ℕ) → Option ℕ → Type 0
  IsNextMoment g result = (b : Book) → IsBookOf x b → Soonest (is_moment (rack_of x.plan.now) (calendar.dates x.calendar.now) b g) (b.present g + 1) result

  -- in an interval of so many ticks, this is the row of a worker
  abbrev pub IsRowOf : (ticks worker : ℕ) → Row → Type 0
  IsRowOf ticks worker row = (b : Book) → IsBookOf x b → IsRow (rack_of x.plan.now) (calendar.dates x.calendar.now) (order.precedes x.order.now) b ticks worker row

  -- and these are the rows of the workers from a first one on
  abbrev pub AreRowsOf : (ticks first : ℕ) → List Row → Type 0
  AreRowsOf ticks first rows = (b : Book) → IsBookOf x b → AreRows (rack_of x.plan.now) (calendar.dates x.calendar.now) (order.precedes x.order.now) b ticks first rows
