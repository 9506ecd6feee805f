-- The roster of four models on three workers in two groups: its advances.
use Rattle.std.proofs.Common.{ℕ, Bool, List, [], ◌∷◌, refl, arith}
use Rattle.order.specs.Keys.{by_keys}
use Rattle.order.proofs.Keyed.{by_keys-OrderLaws}
use Rattle.kinds.specs.declared.runs.Run.{Run}
use Rattle.kinds.specs.Keys.{keys_by_model}
use Rattle.plan.specs.declared.pieces.Pieces.{Pieces}
use Rattle.plan.specs.declared.pieces.Pieces.TheVariants.{Whole, Divided}
use Rattle.dates.specs.Phases.{phase_dates}
use Rattle.book.specs.Racks.{Rack}
use Rattle.book.specs.Books.{Book, blank, entered}
use Rattle.book.specs.Turns.{IsNext}
use Rattle.book.specs.Calls.{Call, Answer, Leads}
use Rattle.shown.specs.Examples.{first_sheet}
use Rattle.shown.specs.Further.{Plays, GivesFour, phases_of_four, other_sheet}
use Rattle.shown.proofs.Racks.{rack_by, gives}
use Rattle.shown.proofs.Rosters.{plays, is_next}

-- where the models are
abbrev places : List Pieces
places = Whole 1 6 ∷ Divided 1 4 2 ∷ Whole 2 6 ∷ Whole 3 6 ∷ []

abbrev costs : List ℕ
costs = 6 ∷ 6 ∷ 6 ∷ 6 ∷ []

abbrev periods : List ℕ
periods = 10 ∷ 10 ∷ 10 ∷ 10 ∷ []

abbrev rack : Rack
rack = rack_by 3 2 10 costs periods places

abbrev dates : ℕ → ℕ → Bool
dates = phase_dates phases_of_four

abbrev precedes : Run → Run → Bool
precedes = by_keys keys_by_model

-- what a roster over this rack answers, one over every plan by the rules answers
pub plays_four : {calls : List Call} {answers : List Answer} {end : Book} → Leads rack dates precedes blank calls answers end → GivesFour (λ plan. Plays plan phases_of_four precedes calls answers)
plays_four leads =
    gives 3 2 10 costs periods places (refl, refl) _ (λ set made. record { fits = refl; light = refl; there = (refl, (refl, (refl, (refl, refl)))) })
    (plays rack phases_of_four precedes (by_keys-OrderLaws keys_by_model 1) refl leads)

pub other_next : IsNext rack dates precedes blank 2 other_sheet
other_next = is_next refl refl (omega arith) refl refl refl

-- after it, the first advance of group 1
pub ours_next : IsNext rack dates precedes (entered blank other_sheet) 1 first_sheet
ours_next = is_next refl refl (omega arith) refl refl refl
