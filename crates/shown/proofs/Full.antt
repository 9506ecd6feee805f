-- The roster of three models that fill two workers, where the divided one has no dates: its first advance.
use Rattle.std.proofs.Common.{ℕ, Bool, List, [], ◌∷◌, refl, arith}
use Rattle.order.specs.Keys.{by_keys}
use Rattle.order.proofs.Keyed.{by_keys-OrderLaws}
use Rattle.kinds.specs.declared.runs.Run.{Run}
use Rattle.kinds.specs.Keys.{keys_by_model}
use Rattle.plan.specs.declared.pieces.Pieces.{Pieces}
use Rattle.plan.specs.declared.pieces.Pieces.TheVariants.{Whole, Divided}
use Rattle.dates.specs.Phases.{phase_dates}
use Rattle.book.specs.Racks.{Rack}
use Rattle.book.specs.Books.{Book, blank}
use Rattle.book.specs.Turns.{IsNext}
use Rattle.book.specs.Calls.{Call, Answer, Leads}
use Rattle.shown.specs.Further.{Plays, GivesFull, phases_of_full, pieces_sheet}
use Rattle.shown.proofs.Racks.{rack_by, gives}
use Rattle.shown.proofs.Rosters.{plays, is_next}

-- where the models are
abbrev places : List Pieces
places = Whole 1 6 ∷ Divided 1 4 2 ∷ Whole 2 8 ∷ []

abbrev costs : List ℕ
costs = 3 ∷ 6 ∷ 8 ∷ []

abbrev periods : List ℕ
periods = 5 ∷ 10 ∷ 10 ∷ []

abbrev rack : Rack
rack = rack_by 2 2 10 costs periods places

abbrev dates : ℕ → ℕ → Bool
dates = phase_dates phases_of_full

abbrev precedes : Run → Run → Bool
precedes = by_keys keys_by_model

-- what a roster over this rack answers, one over every plan by the rules answers
pub plays_full : {calls : List Call} {answers : List Answer} {end : Book} → Leads rack dates precedes blank calls answers end → GivesFull (λ plan. Plays plan phases_of_full precedes calls answers)
plays_full leads =
    gives 2 2 10 costs periods places (refl, refl) _ (λ set made. record { fits = refl; light = refl; there = (refl, (refl, (refl, refl))) })
    (plays rack phases_of_full precedes (by_keys-OrderLaws keys_by_model 1) refl leads)

pub pieces_next : IsNext rack dates precedes blank 1 pieces_sheet
pieces_next = is_next refl refl (omega arith) refl refl refl
