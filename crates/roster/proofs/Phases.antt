-- What holds of a phase in each case, by the book.
use Rattle.std.proofs.Common.{◌≡◌, ℕ, ◌-◌, Bool, true, false, List, refl, sym, subst}
use Rattle.std.specs.Prelude.{if◌then◌else◌}
use Rattle.std.specs.Bool.{IsTrue}
use Rattle.kinds.specs.declared.runs.Run.{Run}
use Rattle.plan.specs.declared.plans.Plan.{Plan}
use Rattle.book.specs.Racks.{rack_of}
use Rattle.book.specs.Books.{Book, is_model_of, is_live, date_of, served}
use Rattle.roster.specs.declared.phase.Phase.{Phase}
use Rattle.roster.specs.declared.phase.Phase.TheVariants.{Waiting, Live, Withdrawn}
use Rattle.roster.specs.declared.record.Record.{Record}
use Rattle.roster.specs.Records.{phase_at}
use Rattle.roster.specs.Telling.{IsBook}

by_case : (P : Phase → Type 0) (gone live : Bool) (d x : ℕ) → P Withdrawn → P Waiting → (live ≡ true → P (Live d x)) → P (if gone then Withdrawn else if live then Live d x else Waiting)
by_case P true live d x out rest run = out
by_case P false true d x out rest run = run refl
by_case P false false d x out rest run = rest

-- of the record of a model, in a roster that has a book: it is out, or waits, or has the run that the book says
pub by_phase : (P : Phase → Type 0) {plan : Plan} {dates : ℕ → ℕ → Bool} {precedes : Run → Run → Bool} {presents : List ℕ} {mirrored : List Bool} {records : List Record} (b : Book) → IsBook plan dates precedes presents mirrored records b
    → (i : ℕ) → IsTrue (is_model_of (rack_of plan) i) → P Withdrawn → P Waiting → (IsTrue (is_live (rack_of plan) dates b i) → P (Live (date_of (rack_of plan) dates b i) (served (rack_of plan) dates b i))) → P (phase_at records (i - 1))
by_phase P {plan} {dates} b says i model out rest run =
    let rack = rack_of plan in
    subst P (sym (says.phases i model)) (by_case P (b.withdrawn i) (is_live rack dates b i) (date_of rack dates b i) (served rack dates b i) out rest run)
