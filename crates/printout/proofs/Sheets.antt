-- The lines of a sheet, row after row.
use Rattle.std.proofs.Common.{◌≡◌, ℕ, zero, suc, ◌+◌, ◌-◌, ◌/◌, ◌<◌, ◌≤◌, List, [], ◌∷◌, ◌++◌, length, get_or, take, drop, sum, refl, sym, ap, ◌∙◌, take_at, drop_at, arith}
use Rattle.std.proofs.Math.Seq.{drop-cons}
use Rattle.std.proofs.lemmas.List.{take_all, drop_all, length-drop}
use Rattle.std.proofs.lemmas.List.Sums.{sum_by-cons}
use Rattle.book.specs.Reading.{row_from, rows_from, rows_in}
use Rattle.printout.specs.Texts.{row_text, rows_text}
use Rattle.printout.specs.Showing.{AreSheetWords}
use Rattle.printout.specs.declared.page.Page.{Page}
use Rattle.printout.specs.Pages.{Fits, Appends}
use Rattle.printout.proofs.Begun.{Begun, begun_as, begun_none, begun_fits, begun_more, begun_end}

-- the rows of these sizes are still to be written, from this worker on, and there are ends and models for all of them
pub record Rows (p : Page) (text : List ℕ) (worker : ℕ) (sizes ends models : List ℕ) (q : Page) : Type 0 where
  pub begun' : Begun p text (rows_text worker (rows_from sizes ends models)) q
  pub ends' : sum sizes ≤ length ends
  pub models' : sum sizes ≤ length models

-- a row takes no more models than it has ends
row_from_take : (n : ℕ) (ends models : List ℕ) → row_from (take n ends) (take n models) ≡ row_from (take n ends) models
row_from_take zero ends models = refl
row_from_take (suc n) [] models = refl
row_from_take (suc n) (end ∷ ends) [] = refl
row_from_take (suc n) (end ∷ ends) (model ∷ models) = λ k. record { end = end; model = model } ∷ row_from_take n ends models k

module _ {p q : Page} {text : List ℕ} {worker size : ℕ} {sizes ends models : List ℕ} (s : Rows p text worker (size ∷ sizes) ends models q) where
  all : sum (size ∷ sizes) ≡ size + sum sizes
  all = sum_by-cons (λ x. x) size sizes

  pub ends_left : size ≤ length ends
  ends_left = omega (arith, all, s.ends')

  pub models_left : size ≤ length models
  models_left = omega (arith, all, s.models')

  -- the line of the next row is due
  row_next : Begun p text (row_text worker (row_from (take size ends) (take size models)) ++ rows_text (worker + 1) (rows_from sizes (drop size ends) (drop size models))) q
  row_next = rw (row_from_take size ends models) s.begun'

  pub row_fits' : Fits p text → Fits q (row_text worker (row_from (take size ends) (take size models)))
  row_fits' fits = begun_fits (rows_text (worker + 1) (rows_from sizes (drop size ends) (drop size models))) (row_text worker (row_from (take size ends) (take size models))) fits row_next

  pub rows_more : {r : Page} → Appends q (row_text worker (row_from (take size ends) (take size models))) r → Rows p text (worker + 1) sizes (drop size ends) (drop size models) r
  rows_more a = record {
    begun' = begun_more (rows_text (worker + 1) (rows_from sizes (drop size ends) (drop size models))) row_next a;
    ends' = omega (arith, all, s.ends', length-drop size ends);
    models' = omega (arith, all, s.models', length-drop size models);
  }

-- some row is left
pub rows_some : {p q : Page} {text : List ℕ} {worker : ℕ} (sizes : List ℕ) {ends models : List ℕ} (k : ℕ) → k < length sizes → Rows p text worker (drop k sizes) ends models q → Rows p text worker (get_or sizes k 0 ∷ drop (k + 1) sizes) ends models q
rows_some sizes k more s =
    let next : suc k ≡ k + 1 = omega arith in
    let some = drop-cons sizes k 0 more ∙ ap (λ n. get_or sizes k 0 ∷ drop n sizes) next in
    rw some at s

-- no row is left
pub rows_end : {p q : Page} {text : List ℕ} {worker : ℕ} (sizes : List ℕ) {ends models : List ℕ} (k : ℕ) → length sizes ≤ k → Rows p text worker (drop k sizes) ends models q → Appends p text q
rows_end sizes k done s = let none = drop_all k sizes done in begun_end (rw none at s.begun')

module _ {words : List ℕ} (w : AreSheetWords words) where
  behind_count : take (length words - 1) (drop 1 words) ≡ w.sizes ++ w.spans
  behind_count = ap (λ ws. take (length ws - 1) (drop 1 ws)) w.is ∙ take_all (length (length w.sizes ∷ w.sizes ++ w.spans) - 1) (w.sizes ++ w.spans) (omega arith)

  count : get_or words 0 0 ≡ length w.sizes
  count = ap (λ ws. get_or ws 0 0) w.is

  -- the words behind the first are sizes, and then spans
  pub sizes_are : take (get_or words 0 0) (take (length words - 1) (drop 1 words)) ≡ w.sizes
  sizes_are = (λ k. take (count k) (behind_count k)) ∙ take_at w.sizes w.spans (length w.sizes) refl

  pub spans_are : drop (get_or words 0 0) (take (length words - 1) (drop 1 words)) ≡ w.spans
  spans_are = (λ k. drop (count k) (behind_count k)) ∙ drop_at w.sizes w.spans (length w.sizes) refl

  half : length w.spans / 2 ≡ sum w.sizes
  half = omega (arith, w.even)

  rows_are : rows_in words ≡ rows_from w.sizes w.spans (drop (length w.spans / 2) w.spans)
  rows_are =
      let front = take_at w.sizes w.spans (length w.sizes) refl in
      let back = drop_at w.sizes w.spans (length w.sizes) refl in
      ap rows_in w.is ∙ (λ k. rows_from (front k) (back k) (drop (sum (front k)) (back k))) ∙ ap (λ n. rows_from w.sizes w.spans (drop n w.spans)) (sym half)

  -- all rows are still to be written; models are the later half of the spans
  pub rows_begin : {p : Page} (worker : ℕ) → Fits p (rows_text worker (rows_in words))
      → Rows p (rows_text worker (rows_in words)) worker w.sizes w.spans (take (length w.spans - length w.spans / 2) (drop (length w.spans / 2) w.spans)) p
  rows_begin worker fits =
      let later = length-drop (length w.spans / 2) w.spans in
      let all : take (length w.spans - length w.spans / 2) (drop (length w.spans / 2) w.spans) ≡ drop (length w.spans / 2) w.spans = take_all _ _ (omega arith) in
      rw all (record {
        begun' = begun_as (ap (rows_text worker) rows_are) (begun_none fits);
        ends' = omega (arith, w.even);
        models' = omega (arith, w.even);
      })
