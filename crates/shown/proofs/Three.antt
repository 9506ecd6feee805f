-- The three models' roster: that it can be opened, and its advances.
use Rattle.std.proofs.Common.{◌≡◌, ℕ, Bool, List, [], ◌∷◌, refl, sym, subst, arith}
use Rattle.order.specs.Keys.{by_keys}
use Rattle.order.proofs.Keyed.{by_keys-OrderLaws}
use Rattle.kinds.specs.declared.runs.Run.{Run}
use Rattle.kinds.specs.Keys.{keys_by_model}
use Rattle.plan.specs.declared.pieces.Pieces.{Pieces}
use Rattle.plan.specs.declared.pieces.Pieces.TheVariants.{Whole, Divided}
use Rattle.plan.specs.declared.plans.Plan.{Plan}
use Rattle.book.specs.Racks.{Rack, rack_of}
use Rattle.book.specs.Books.{Book, blank, entered, without}
use Rattle.book.specs.Turns.{IsNext}
use Rattle.book.specs.Calls.{Call, Answer, Leads}
use Rattle.shown.specs.Examples.{GivesThree, OpensThree, LeadsThree, phases_of_three, dates_of_three, first_sheet, second_sheet}
use Rattle.shown.specs.Further.{PlaysThree, idle_sheet}
use Rattle.shown.proofs.Racks.{rack_by, gives}
use Rattle.shown.proofs.Rosters.{opens, plays, is_next}

-- where the three models are
abbrev places : List Pieces
places = Whole 1 6 ∷ Divided 1 4 2 ∷ Whole 2 6 ∷ []

abbrev sixes : List ℕ
sixes = 6 ∷ 6 ∷ 6 ∷ []

abbrev tens : List ℕ
tens = 10 ∷ 10 ∷ 10 ∷ []

abbrev pub rack : Rack
rack = rack_by 2 2 10 sixes tens places

abbrev pub precedes : Run → Run → Bool
precedes = by_keys keys_by_model

-- what is so of all plans with this rack is so of every plan by the rules
pub gives_three : (P : Plan → Type 0) → ((plan : Plan) → rack_of plan ≡ rack → P plan) → GivesThree P
gives_three P so = gives 2 2 10 sixes tens places (refl, refl) P (λ set made. record { fits = refl; light = refl; there = (refl, (refl, (refl, refl))) }) so

pub opens_three : (plan : Plan) → rack_of plan ≡ rack → OpensThree plan
opens_three plan is = opens rack phases_of_three precedes (by_keys-OrderLaws keys_by_model 1) refl plan is

-- the calls lead from book to book as they do over this rack
pub leads_three : {b : Book} {calls : List Call} {answers : List Answer} {c : Book} → Leads rack dates_of_three precedes b calls answers c → (plan : Plan) → rack_of plan ≡ rack → LeadsThree b calls answers c plan
leads_three {b} {calls} {answers} {c} leads plan is = subst (λ r. Leads r dates_of_three precedes b calls answers c) (sym is) leads

-- what a roster over this rack answers, one over every plan by the rules answers
pub plays_three : {calls : List Call} {answers : List Answer} {end : Book} → Leads rack dates_of_three precedes blank calls answers end → GivesThree (PlaysThree calls answers)
plays_three leads = gives_three _ (plays rack phases_of_three precedes (by_keys-OrderLaws keys_by_model 1) refl leads)

pub first_next : IsNext rack dates_of_three precedes blank 1 first_sheet
first_next = is_next refl refl (omega arith) refl refl refl

-- after it
pub second_next : IsNext rack dates_of_three precedes (entered blank first_sheet) 1 second_sheet
second_next = is_next refl refl (omega arith) refl refl refl

-- the same if model 2 is withdrawn between the two
pub idle_next : IsNext rack dates_of_three precedes (without (entered blank first_sheet) 2) 1 idle_sheet
idle_next = is_next refl refl (omega arith) refl refl refl
