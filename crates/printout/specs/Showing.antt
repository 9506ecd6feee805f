-- What the lines of a text promise each other; no public contract speaks of it.
use Rattle.std.specs.Prelude.{◌≡◌, ℕ, ◌*◌, ◌≤◌, List, [], ◌∷◌, ◌++◌, length, take, sum, Ok, Err, codes, Result}
use Rattle.std.specs.List.{flat_map}
use Rattle.order.specs.Keys.{by_keys}
use Rattle.kinds.specs.Keys.{keys_by_model}
use Rattle.refusal.specs.declared.Refusal.{Refusal}
use Rattle.plan.specs.declared.plans.Plan.{Plan}
use Rattle.calendars.specs.Periods.{own_dates}
use Rattle.book.specs.Laws.{Answered}
use Rattle.book.specs.Reading.{rows_in}
use Rattle.printout.specs.declared.page.Page.{Page}
use Rattle.printout.specs.Lines.{line_of}
use Rattle.printout.specs.Pages.{Appends}
use Rattle.printout.specs.Texts.{rows_text, answer_text}
use Rattle.printout.specs.Printing.{first_advances}

-- these words have the form of a sheet: how many rows there are, the length of each, then all ends, and as many models
pub record AreSheetWords (words : List ℕ) : Type 0 where
  pub sizes : List ℕ
  pub spans : List ℕ
  pub is : words ≡ length sizes ∷ sizes ++ spans
  pub even : length spans ≡ 2 * sum sizes

-- what an advance of a group gave, as text: its four numbers and the words of a sheet, or a refusal
abbrev pub given_text : ℕ → Result (ℕ × ℕ × ℕ × ℕ) Refusal → List ℕ → List ℕ
given_text g (Ok (start, end, first, written)) words = line_of (codes "group") (g ∷ (start ∷ (end ∷ []))) ++ rows_text first (rows_in (take written words))
given_text g (Err refusal) words = line_of (codes "rest") (refusal.place ∷ [])

-- where it gave a sheet, so many of these words have the form of one
abbrev pub IsWhole : Result (ℕ × ℕ × ℕ × ℕ) Refusal → List ℕ → Type 0
IsWhole (Ok (start, end, first, written)) words = (written ≤ length words) × AreSheetWords (take written words)
IsWhole (Err refusal) words = Unit {0}

-- q is p with what the groups' advances are answered
pub record ShowsGroups (plan : Plan) (p q : Page) : Type 0 where
  pub answered : Answered plan (own_dates plan.set) (by_keys keys_by_model) (first_advances plan)
  pub appends : Appends p (flat_map answer_text answered.answers) q
  pub short : length (flat_map answer_text answered.answers) ≤ 7062

-- q is p with such a text
pub record Shows (Is : List ℕ → Type 0) (p q : Page) : Type 0 where
  pub text : List ℕ
  pub is : Is text
  pub appends : Appends p text q
