-- The line of a row, span after span.
use Rattle.std.proofs.Common.{◌≡◌, ℕ, List, [], ◌∷◌, ◌++◌, length, ◌⊎◌, inl, inr, arith}
use Rattle.std.specs.List.{flat_map}
use Rattle.std.proofs.lemmas.List.{append_assoc}
use Rattle.book.specs.Reading.{row_from}
use Rattle.printout.specs.Texts.{span_text}
use Rattle.printout.specs.declared.page.Page.{Page}
use Rattle.printout.specs.Pages.{Fits, Appends}
use Rattle.printout.proofs.Begun.{Begun, begun_as, begun_fits, begun_more}

-- what is to be written of a row with these ends and models
abbrev pub spans_text : (ends models : List ℕ) → List ℕ
spans_text ends models = flat_map span_text (row_from ends models) ++ (10 ∷ [])

-- so much of the line is written, and as many ends as models are left
pub record Spans (p : Page) (text ends models : List ℕ) (q : Page) : Type 0 where
  pub begun' : Begun p text (spans_text ends models) q
  pub level : length models ≡ length ends

module _ {p q : Page} {text : List ℕ} (end model : ℕ) {ends models : List ℕ} where
  span_next : Spans p text (end ∷ ends) (model ∷ models) q → Begun p text (span_text (record { end = end; model = model }) ++ spans_text ends models) q
  span_next s = begun_as (append_assoc (span_text (record { end = end; model = model })) (flat_map span_text (row_from ends models)) (10 ∷ [])) s.begun'

  pub span_fits : Fits p text → Spans p text (end ∷ ends) (model ∷ models) q → Fits q (span_text (record { end = end; model = model }))
  span_fits fits s = begun_fits (spans_text ends models) (span_text (record { end = end; model = model })) fits (span_next s)

  pub spans_more : {r : Page} → Spans p text (end ∷ ends) (model ∷ models) q → Appends q (span_text (record { end = end; model = model })) r → Spans p text ends models r
  spans_more s a = record { begun' = begun_more (spans_text ends models) (span_next s) a; level = omega (arith, s.level) }

-- no span is left
pub spans_end : {p q : Page} {text ends models : List ℕ} → length ends ≡ 0 ⊎ length models ≡ 0 → Spans p text ends models q → Begun p text (10 ∷ []) q
spans_end {ends = []} none s = s.begun'
spans_end {ends = end ∷ ends} {models = []} none s = absurd (omega (arith, s.level))
spans_end {ends = end ∷ ends} {models = model ∷ models} (inl none) s = absurd (omega (arith, none))
spans_end {ends = end ∷ ends} {models = model ∷ models} (inr none) s = absurd (omega (arith, none))
