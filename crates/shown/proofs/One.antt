-- The roster of three models on one worker, the second of which has a short period: its advances.
use Rattle.std.proofs.Common.{ℕ, Bool, List, [], ◌∷◌, refl, arith}
use Rattle.order.specs.Keys.{by_keys}
use Rattle.order.specs.Laws.{OrderLaws}
use Rattle.kinds.specs.declared.runs.Run.{Run}
use Rattle.kinds.specs.Keys.{keys_by_model, keys_by_remaining}
use Rattle.plan.specs.declared.pieces.Pieces.{Pieces}
use Rattle.plan.specs.declared.pieces.Pieces.TheVariants.{Whole}
use Rattle.dates.specs.Phases.{phase_dates}
use Rattle.book.specs.Racks.{Rack}
use Rattle.book.specs.Books.{Book, blank, entered}
use Rattle.book.specs.Turns.{IsNext}
use Rattle.book.specs.Calls.{Call, Answer, Leads}
use Rattle.shown.specs.Further.{Plays, GivesOne, phases_of_one, short_sheet, long_sheet, swapped_sheet, own_keys}
use Rattle.shown.proofs.Racks.{rack_by, gives}
use Rattle.shown.proofs.Rosters.{plays, is_next}

-- where the three models are
abbrev places : List Pieces
places = Whole 1 4 ∷ Whole 1 5 ∷ Whole 1 1 ∷ []

abbrev costs : List ℕ
costs = 4 ∷ 1 ∷ 1 ∷ []

abbrev periods : List ℕ
periods = 10 ∷ 2 ∷ 10 ∷ []

abbrev rack : Rack
rack = rack_by 1 1 10 costs periods places

abbrev dates : ℕ → ℕ → Bool
dates = phase_dates phases_of_one

-- what a roster over this rack answers, one over every plan by the rules answers
pub plays_one : (precedes : Run → Run → Bool) → OrderLaws (λ (r : Run). r.model) (λ (r : Run). r.deadline) precedes → {calls : List Call} {answers : List Answer} {end : Book} → Leads rack dates precedes blank calls answers end → GivesOne (λ plan. Plays plan phases_of_one precedes calls answers)
plays_one precedes laws leads =
    gives 1 1 10 costs periods places (refl, refl) _ (λ set made. record { fits = refl; light = refl; there = (refl, (refl, (refl, refl))) })
    (plays rack phases_of_one precedes laws refl leads)

-- ties go by model number
pub short_next : IsNext rack dates (by_keys keys_by_model) blank 1 short_sheet
short_next = is_next refl refl (omega arith) refl refl refl

-- after it
pub long_next : IsNext rack dates (by_keys keys_by_model) (entered blank short_sheet) 1 long_sheet
long_next = is_next refl refl (omega arith) refl refl refl

-- ties go by fewer remaining parts
pub fewer_next : IsNext rack dates (by_keys keys_by_remaining) blank 1 swapped_sheet
fewer_next = is_next refl refl (omega arith) refl refl refl

-- at equal deadlines model 3 precedes all others
pub own_next : IsNext rack dates (by_keys own_keys) blank 1 swapped_sheet
own_next = is_next refl refl (omega arith) refl refl refl
