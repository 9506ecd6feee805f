-- What each call on a roster answers, as an answer of a list.
use Rattle.std.proofs.Common.{◌≡◌, ℕ, List, sym, subst, refl}
use Rattle.refusal.specs.Refusals.{told}
use Rattle.refusal.specs.declared.Refusal.{Refusal}
use Rattle.kinds.specs.declared.runs.Run.{Run}
use Rattle.calendar.specs.declared.Calendar.{Ghosts as CalendarMeaning}
use Rattle.order.specs.declared.Order.{Ghosts as OrderMeaning}
use Rattle.order.specs.declared.Thing.{Ghosts as ThingMeaning}
use Rattle.standing.specs.Standings.{reported}
use Rattle.standing.specs.declared.Standing.{Standing}
use Rattle.book.specs.Calls.{Call, Answer as Given, Advanced, Withdrew, Stands, Refused}
use Rattle.roster.specs.declared.Roster.{Roster}
use Rattle.roster.specs.Keeping.{Keeps, AreNumbers}
use Rattle.season.specs.declared.answer.Answer.TheVariants as answer
use Rattle.season.specs.Asking.{IsAnswer, Gives, advanced, withdrew, stands, refused}

pub says_advanced : (start end first written : ℕ) (given : Given) → AreNumbers (start, end, first, written) given → IsAnswer (answer.Advanced start end first written) given
says_advanced start end first written given is = rw is.1.0 (advanced start end first written is.0 is.1.1)

pub says_refused : (e : Refusal) (given : Given) → given ≡ Refused (told e) → IsAnswer (answer.Refused e) given
says_refused e given is = subst (λ (a : Given). IsAnswer (answer.Refused e) a) (sym is) (refused e (told e) refl)

-- what leaves lent memory as it was
module _ (words : List ℕ) (scratch : List Run) where
  pub gives_withdrew : (given : Given) → given ≡ Withdrew → Gives answer.Withdrew words words scratch scratch given
  gives_withdrew given is = rw is (record { is = withdrew; leaves = record { in_words = refl; in_scratch = refl } })

  pub gives_stands : (standing : Standing) (given : Given) → given ≡ Stands (reported standing) → Gives (answer.Stands standing) words words scratch scratch given
  gives_stands standing given is = rw is (record { is = stands standing (reported standing) refl; leaves = record { in_words = refl; in_scratch = refl } })

  pub gives_refused : (e : Refusal) (given : Given) → given ≡ Refused (told e) → Gives (answer.Refused e) words words scratch scratch given
  gives_refused e given is = rw is (record { is = refused e (told e) refl; leaves = record { in_words = refl; in_scratch = refl } })

module _ {C O : Type 0} {calendar : CalendarMeaning C} {order : OrderMeaning O Run} {thing : ThingMeaning Run} where
  -- what is said of an answer may be said otherwise
  pub keeps_as : (x y : Roster C O calendar order thing) (call : Call) (P Q : Given → Type 0) → ((given : Given) → P given → Q given) → Keeps x call P y → Keeps x call Q y
  keeps_as x y call P Q turn keeps = record {
    goes = λ at. let w = keeps.goes at in record { answer = w.answer; after = w.after; step = w.step; gives' = turn w.answer w.gives'; at = w.at };
  }
