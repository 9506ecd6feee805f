-- What the spans and rows still to come give to the models.
use Rattle.std.proofs.Common.{◌≡◌, ℕ, ◌+◌, ◌-◌, ◌<◌, ◌≤◌, List, ◌∷◌, map, get_or, take, drop, refl, ap, sym, ◌∙◌, subst, sum, arith}
use Rattle.std.specs.Prelude.{if◌then◌else◌, ◌==◌, length}
use Rattle.std.specs.List.{All}
use Rattle.std.proofs.lemmas.List.{drop_more, at_drop_more, at_drop_all, take-map, drop-map, length-drop}
use Rattle.std.proofs.lemmas.List.Sums.{sum_by-drop_more}
use Rattle.std.proofs.lemmas.List.Elements.{All-head, All-tail}
use Rattle.book.specs.Sheets.{Row}
use Rattle.roster.specs.declared.phase.Phase.{Phase}
use Rattle.roster.specs.declared.phase.Phase.TheVariants.{Waiting, Live, Withdrawn}
use Rattle.roster.specs.declared.event.Event.TheVariants.{Service}
use Rattle.roster.specs.declared.sheet.span.Span.{Span}
use Rattle.roster.specs.Records.{met, served_in}
use Rattle.roster.specs.Spans.{told_by}
use Rattle.roster.specs.Tables.{pieces_of}
use Rattle.roster.specs.Advancing.{Rises, row_gives, rows_give}

-- parts of nothing change nothing
pub not_served : (p : Phase) → met p (Service 0) ≡ p
not_served Waiting = refl
not_served (Live d x) = let e : x + 0 ≡ x = omega arith in ap (λ n. Live d n) e
not_served Withdrawn = refl

-- parts, and then others, are their sum
served_twice : (p : Phase) (a b : ℕ) → met (met p (Service a)) (Service b) ≡ met p (Service (a + b))
served_twice Waiting a b = refl
served_twice (Live d x) a b = let e : x + a + b ≡ x + (a + b) = omega arith in ap (λ n. Live d n) e
served_twice Withdrawn a b = refl

-- and there is room for the others
room_left : (p : Phase) (a b n : ℕ) → served_in p + (a + b) < n → served_in (met p (Service a)) + b < n
room_left Waiting a b n l = omega arith
room_left (Live d x) a b n l = omega arith
room_left Withdrawn a b n l = omega arith

-- the next span, and what is behind it
module _ (row : List Span) (j from : ℕ) (d : Span) (l : j < length row) where
  abbrev next : Span
  next = get_or row j d

  pub next_rises : Rises from (map told_by (drop j row)) → (from < next.end) × (next.model ≤ 64) × Rises next.end (map told_by (drop (j + 1) row))
  next_rises = subst (λ r. Rises from (map told_by r)) (drop_more row j d l)

  pub next_gives : (i : ℕ) → row_gives from (map told_by (drop j row)) i ≡ (if next.model == i then next.end - from else 0) + row_gives next.end (map told_by (drop (j + 1) row)) i
  next_gives i = at_drop_more (λ r. row_gives from (map told_by r) i) row j d l

-- a model's phase after some of what it gets, where the rest is still to come
pub serves_on : (p q r : Phase) (a b c : ℕ) → met p (Service c) ≡ r → c ≡ a + b → q ≡ met p (Service a) → met q (Service b) ≡ r
serves_on p q r a b c e split is = rw is (served_twice p a b) ∙ sym (ap (λ n. met p (Service n)) split) ∙ e

-- there is room for what comes next
pub room_first : (x a b c n : ℕ) → (0 < c → x + c < n) → c ≡ a + b → 0 < a → x + a < n
room_first x a b c n room split some = let l : x + c < n = room (omega arith) in omega arith

-- and then for the rest
pub room_on : (p q : Phase) (a b c n : ℕ) → (0 < c → served_in p + c < n) → c ≡ a + b → q ≡ met p (Service a) → 0 < b → served_in q + b < n
room_on p q a b c n room split is some = let l : served_in p + c < n = room (omega arith) in rw is (room_left p a b n (omega arith))

-- where nothing is still to come, it has all
pub serves_all : (p r : Phase) (c : ℕ) → met p (Service c) ≡ r → c ≡ 0 → p ≡ r
serves_all p r c e none = sym (not_served p) ∙ sym (ap (λ n. met p (Service n)) none) ∙ e

pub none_gives : (row : List Span) (j from : ℕ) → length row ≤ j → (i : ℕ) → row_gives from (map told_by (drop j row)) i ≡ 0
none_gives row j from l i = at_drop_all (λ r. row_gives from (map told_by r) i) row j l

-- the rows still to come
abbrev pub rest_of : List ℕ → ℕ → List Span → List Row
rest_of sizes j spans = pieces_of (drop j sizes) (map told_by spans)

-- the next row, and the spans of the others
pub next_row : (sizes : List ℕ) (j : ℕ) → j < length sizes → (spans row others : List Span) → row ≡ take (get_or sizes j 0) spans → others ≡ drop (get_or sizes j 0) spans
    → rest_of sizes j spans ≡ map told_by row ∷ rest_of sizes (j + 1) others
next_row sizes j l spans row others front back =
    let told_front : take (get_or sizes j 0) (map told_by spans) ≡ map told_by row = take-map told_by (get_or sizes j 0) spans ∙ sym (ap (map told_by) front) in
    let told_back : drop (get_or sizes j 0) (map told_by spans) ≡ map told_by others = drop-map told_by (get_or sizes j 0) spans ∙ sym (ap (map told_by) back) in
    at_drop_more (λ ns. pieces_of ns (map told_by spans)) sizes j 0 l ∙ rw (told_front, told_back) refl

-- the sizes still to come add up to the spans still to come
pub others_add : (sizes : List ℕ) (j : ℕ) → j < length sizes → (spans others : List Span) → others ≡ drop (get_or sizes j 0) spans → sum (drop j sizes) ≡ length spans → sum (drop (j + 1) sizes) ≡ length others
others_add sizes j l spans others back e = omega (arith, sum_by-drop_more (λ x. x) sizes j 0 l, ap length back, length-drop (get_or sizes j 0) spans)

module _ {rows others : List Row} {row : Row} (next : rows ≡ row ∷ others) where
  pub rises_next : All (Rises 0) rows → Rises 0 row × All (Rises 0) others
  rises_next h = let h' = subst (All (Rises 0)) next h in (All-head (Rises 0) row others h', All-tail (Rises 0) row others h')

  pub give_next : (i : ℕ) → rows_give rows i ≡ row_gives 0 row i + rows_give others i
  give_next i = ap (λ rows. rows_give rows i) next

pub no_rows_give : (sizes : List ℕ) (j : ℕ) (spans : List Span) → length sizes ≤ j → (i : ℕ) → rows_give (rest_of sizes j spans) i ≡ 0
no_rows_give sizes j spans l i = at_drop_all (λ ns. rows_give (pieces_of ns (map told_by spans)) i) sizes j l
