-- The roster of two models on one worker, where what is left decides ties: its advances.
use Rattle.std.proofs.Common.{ℕ, Bool, List, [], ◌∷◌, refl, arith}
use Rattle.order.specs.Keys.{by_keys}
use Rattle.order.proofs.Keyed.{by_keys-OrderLaws}
use Rattle.kinds.specs.declared.runs.Run.{Run}
use Rattle.kinds.specs.Keys.{keys_by_remaining}
use Rattle.plan.specs.declared.pieces.Pieces.{Pieces}
use Rattle.plan.specs.declared.pieces.Pieces.TheVariants.{Whole}
use Rattle.dates.specs.Phases.{phase_dates}
use Rattle.book.specs.Racks.{Rack}
use Rattle.book.specs.Books.{Book, blank, entered}
use Rattle.book.specs.Turns.{IsNext}
use Rattle.book.specs.Calls.{Call, Answer, Leads}
use Rattle.shown.specs.Further.{Plays, GivesTwo, phases_of_two, lone_sheet, joint_sheet}
use Rattle.shown.proofs.Racks.{rack_by, gives}
use Rattle.shown.proofs.Rosters.{plays, is_next}

-- where the models are
abbrev places : List Pieces
places = Whole 1 6 ∷ Whole 1 4 ∷ []

abbrev costs : List ℕ
costs = 6 ∷ 2 ∷ []

abbrev periods : List ℕ
periods = 10 ∷ 5 ∷ []

abbrev rack : Rack
rack = rack_by 1 1 10 costs periods places

abbrev dates : ℕ → ℕ → Bool
dates = phase_dates phases_of_two

abbrev precedes : Run → Run → Bool
precedes = by_keys keys_by_remaining

-- what a roster over this rack answers, one over every plan by the rules answers
pub plays_two : {calls : List Call} {answers : List Answer} {end : Book} → Leads rack dates precedes blank calls answers end → GivesTwo (λ plan. Plays plan phases_of_two precedes calls answers)
plays_two leads =
    gives 1 1 10 costs periods places (refl, refl) _ (λ set made. record { fits = refl; light = refl; there = (refl, (refl, refl)) })
    (plays rack phases_of_two precedes (by_keys-OrderLaws keys_by_remaining 2) refl leads)

pub lone_next : IsNext rack dates precedes blank 1 lone_sheet
lone_next = is_next refl refl (omega arith) refl refl refl

-- after it
pub joint_next : IsNext rack dates precedes (entered blank lone_sheet) 1 joint_sheet
joint_next = is_next refl refl (omega arith) refl refl refl
