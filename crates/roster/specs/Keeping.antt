-- What each call keeps between a roster and its books.
use Rattle.std.specs.Prelude.{◌≡◌, ℕ, List, length, Ok, Err, Result}
use Rattle.kinds.specs.declared.runs.Run.{Run}
use Rattle.calendar.specs.declared.Calendar.{Ghosts as CalendarMeaning}
use Rattle.order.specs.declared.Order.{Ghosts as OrderMeaning}
use Rattle.order.specs.declared.Thing.{Ghosts as ThingMeaning}
use Rattle.refusal.specs.Refusals.{told}
use Rattle.refusal.specs.declared.Refusal.{Refusal}
use Rattle.book.specs.Racks.{rack_of}
use Rattle.book.specs.Sheets.{Sheet}
use Rattle.plan.specs.declared.plans.Plan.{Plan}
use Rattle.book.specs.Books.{Book, blank}
use Rattle.book.specs.Calls.{Call, Advance, Answer, Advanced, Refused, Step, numbers_of}
use Rattle.book.specs.Buffers.{Leaves}
use Rattle.roster.specs.declared.Roster.{Roster}
use Rattle.roster.specs.Telling.{IsBook}

-- what a call gave agrees with the book's answer: a refusal by its number, layer and place, and what is no refusal by `agrees`
abbrev pub Agrees : {A : Type 0} → (A → Answer → Type 0) → Result A Refusal → Answer → Type 0
Agrees agrees (Ok x) answer = agrees x answer
Agrees agrees (Err refusal) answer = answer ≡ Refused (told refusal)

-- an advance of a group that is lent these
abbrev pub advance_of : ℕ → List ℕ → List Run → Call
advance_of g words scratch = Advance g (length words) (length scratch)

-- there is a sheet in the answer, and these are its four numbers
abbrev pub AreNumbers : ℕ × ℕ × ℕ × ℕ → Answer → Type 0
AreNumbers numbers answer = (s : Sheet) × ((answer ≡ Advanced s) × (numbers ≡ numbers_of s))

-- what an advance gave agrees with the book's answer, and so does what it left in the memory that it was lent
pub record Advances (result : Result (ℕ × ℕ × ℕ × ℕ) Refusal) (words words' : List ℕ) (scratch scratch' : List Run) (answer : Answer) : Type 0 where
  pub agrees : Agrees AreNumbers result answer
  pub leaves : Leaves answer words words' scratch scratch'

module _ {C O : Type 0} {calendar : CalendarMeaning C} {order : OrderMeaning O Run} {thing : ThingMeaning Run} where
  -- b is a book of the roster: calls have led to it, and it says what the roster holds
  abbrev pub IsBookOf : Roster C O calendar order thing → Book → Type 0
  IsBookOf r = IsBook r.plan.now (calendar.dates r.calendar.now) (order.precedes r.order.now) r.presents r.mirrored r.models.records

  -- x is over this plan, this calendar and this order, and b is one of its books
  pub record At (plan : Plan) (c : C) (o : O) (x : Roster C O calendar order thing) (b : Book) : Type 0 where
    pub plan' : x.plan.now ≡ plan
    pub calendar' : x.calendar.now ≡ c
    pub order' : x.order.now ≡ o
    pub is : IsBookOf x b

  -- a roster over these on which nothing was called
  abbrev pub Opened : Plan → C → O → Roster C O calendar order thing → Type 0
  Opened plan c o x = At plan c o x blank

  -- a call at the book b: the book's answer, of which `gives` holds, and the book after it, which is one of y
  pub record Goes (plan : Plan) (c : C) (o : O) (b : Book) (call : Call) (gives : Answer → Type 0) (y : Roster C O calendar order thing) : Type 0 where
    pub answer : Answer
    pub after : Book
    pub step : Step (rack_of plan) (calendar.dates c) (order.precedes o) b call answer after
    pub gives' : gives answer
    pub at : At plan c o y after

  -- from x to y by a call, at whatever book of x; that x has one is a fact of its type
  pub record Keeps (x : Roster C O calendar order thing) (call : Call) (gives : Answer → Type 0) (y : Roster C O calendar order thing) : Type 0 where
    pub goes : {plan : Plan} {c : C} {o : O} {b : Book} → At plan c o x b → Goes plan c o b call gives y
