-- How many parts a sheet gives to each model.
use Rattle.std.proofs.Common.{◌≡◌, ℕ, suc, ◌+◌, ◌-◌, ◌*◌, ◌<◌, ◌≤◌, Bool, true, false, cond, not, ◌&&◌, ◌||◌, min, List, [], ◌∷◌, length, inl, inr, refl, ap, sym, ◌∙◌, mul-le-mul_right, arith}
use Rattle.std.specs.Bool.{IsTrue, IsFalse, nat_lt, nat_le, ◌==◌}
use Rattle.std.proofs.lemmas.Bool.{cases_Bool, both_ways, le-ltb, lt-leb}
use Rattle.kinds.specs.declared.runs.Run.{Run}
use Rattle.plan.specs.Groups.{Group}
use Rattle.plan.specs.Shares.{worker_of}
use Rattle.book.specs.Sums.{total}
use Rattle.book.specs.Racks.{Rack, is_divided, whole_on, first_on, second_on}
use Rattle.book.specs.Sheets.{Row, rows_with, holder}
use Rattle.book.specs.Books.{Book, is_model_of, group_with, is_live, left}
use Rattle.book.specs.Turns.{head_of, tail_of, head, tail, opens, closes, ahead, in_head, in_tail, in_turn, has, IsRow, AreRows}
use Rattle.book.proofs.Sums.{total_same, total_none, total_times, total_swap, total_front, total_at, total_at_most_one}
use Rattle.book.proofs.Racks.{IsRack}
use Rattle.book.proofs.Holders.{Holds, at_head, at_tail, at_turn, holds, holder_worker, pos_from, tail_some, clash, fine_of, model_bounds, live_model, ends_count, turn_count}
use Rattle.book.proofs.Pieces.{head_worker, whole_worker, both_ends, two_ends, whole_ends, divided_whole, whole_last, divided_last, pieces_over}

abbrev as_one : Bool → ℕ
as_one b = cond b 1 0

-- of the three ways to have a worker, a divided model's are the first two
at_ends : (live a b c : Bool) → live ≡ true → c ≡ false → (live && (a || b || c)) ≡ (a || b)
at_ends live true b c e f = rw e refl
at_ends live false true c e f = rw e refl
at_ends live false false c e f = rw (e, f) refl

-- and an undivided one's is the last
in_between : (live a b c : Bool) → live ≡ true → a ≡ false → b ≡ false → (live && (a || b || c)) ≡ c
in_between live a b c e f g = rw (e, f, g) refl

none_before : (h D x : ℕ) → h ≡ 0 → nat_lt x (h * D) ≡ false
none_before h D x e = le-ltb x (h * D) (omega (arith, ap (λ n. n * D) e))

none_behind : (G t D x : ℕ) → t ≡ 0 → x < G * D → nat_le ((G - t) * D) x ≡ false
none_behind G t D x e l = lt-leb ((G - t) * D) x (let same : G - t ≡ G = omega arith in omega (arith, ap (λ n. n * D) same))

as_one_le : (b : Bool) → as_one b ≤ 1
as_one_le true = omega arith
as_one_le false = omega arith

true_of : (b : Bool) → 1 ≤ as_one b → IsTrue b
true_of true l = refl
true_of false l = absurd (omega arith)

module _ {rack : Rack} (ok : IsRack rack) (dates : ℕ → ℕ → Bool) (precedes : Run → Run → Bool) (b : Book) (D : ℕ) where
  abbrev Has : ℕ → ℕ → ℕ → Bool
  Has = has rack dates precedes b D

  -- the parts of the interval in which model i has worker p
  abbrev given_at : ℕ → ℕ → ℕ
  given_at i p = total (rack.grain * D) (λ x. cond (Has p i x) 1 0)

  has_not_live : (i p x : ℕ) → IsFalse (is_live rack dates b i) → Has p i x ≡ false
  has_not_live i p x dead = rw dead refl

  given_divided : (i p : ℕ) → IsTrue (is_live rack dates b i) → IsTrue (is_divided (rack.pieces i)) → given_at i p ≡ (head rack b p i + tail rack b p i) * D
  given_divided i p live d =
      let x = rack.pieces i in
      let m = b.mirrored (rack.group p) in
      let fine = fine_of ok i (live_model ok dates b i live) in
      total_same (rack.grain * D) _ _ (λ y l. let none : in_turn rack dates precedes b D p i y ≡ false = rw (divided_whole p x d) refl in ap as_one (at_ends (is_live rack dates b i) (in_head rack dates precedes b D p i y) (in_tail rack dates precedes b D p i y) (in_turn rack dates precedes b D p i y) live none))
      ∙ ends_count rack.grain D (head rack b p i) (tail rack b p i) (omega (arith, two_ends m p p x, fine.sizes, fine.fits))

  -- the parts that an undivided run gets of those between the two pieces
  abbrev pub turn_of : ℕ → ℕ → ℕ
  turn_of i p = min (closes rack b p D - opens rack b p D) (ahead rack dates precedes b p i + left rack dates b i) - ahead rack dates precedes b p i

  given_whole : (i p : ℕ) → IsTrue (is_live rack dates b i) → IsTrue (whole_on p (rack.pieces i)) → given_at i p ≡ turn_of i p
  given_whole i p live w =
      let x = rack.pieces i in
      let m = b.mirrored (rack.group p) in
      let whole = (whole_worker p x w).1 in
      total_same (rack.grain * D) _ _ (λ y l. ap as_one (in_between (is_live rack dates b i) (in_head rack dates precedes b D p i y) (in_tail rack dates precedes b D p i y) (in_turn rack dates precedes b D p i y) live (none_before _ D y (whole_ends m p x whole)) (none_behind rack.grain _ D y (whole_ends (not m) p x whole) l) ∙ rw w refl))
      ∙ turn_count (rack.grain * D) (opens rack b p D) (closes rack b p D) (ahead rack dates precedes b p i) (left rack dates b i) (mul-le-mul_right D (omega arith))

  has_elsewhere : (i p x : ℕ) → x < rack.grain * D → (worker_of (rack.pieces i) ≡ p → ⊥) → (IsTrue (is_divided (rack.pieces i)) → worker_of (rack.pieces i) + 1 ≡ p → ⊥) → Has p i x ≡ false
  has_elsewhere i p x l first second = elim (cases_Bool (Has p i x)) [
    | inl has ↦
        let h = holds rack dates precedes b D p i x has in
        elim (holder_worker ok dates b precedes D p i x l h.1) [ inl here ↦ absurd (first here) | inr there ↦ absurd (second there.0 there.1) ]
    | inr none ↦ none
  ]

  given_elsewhere : (i p : ℕ) → (worker_of (rack.pieces i) ≡ p → ⊥) → (IsTrue (is_divided (rack.pieces i)) → worker_of (rack.pieces i) + 1 ≡ p → ⊥) → given_at i p ≡ 0
  given_elsewhere i p first second = total_none (rack.grain * D) _ (λ x l. ap as_one (has_elsewhere i p x l first second))

  -- a row counts as the rule says
  row_with : (p : ℕ) (row : Row) → IsRow rack dates precedes b D p row → (i x : ℕ) → 1 ≤ i → x < rack.grain * D → as_one (holder row x == i) ≡ as_one (Has p i x)
  row_with p row r i x some l = ap as_one (r.says i x some l)

  rows_with_is : (rows : List Row) (first : ℕ) → AreRows rack dates precedes b D first rows → (i x : ℕ) → 1 ≤ i → x < rack.grain * D → rows_with rows i x ≡ total (length rows) (λ k. as_one (Has (first + k) i x))
  rows_with_is [] first r i x some l = refl
  rows_with_is (row ∷ rows) first r i x some l =
      let here : as_one (Has (first + 0) i x) ≡ as_one (Has first i x) = ap (λ p. as_one (Has p i x)) (omega arith) in
      let rest = total_same (length rows) (λ k. as_one (Has (first + 1 + k) i x)) (λ k. as_one (Has (first + suc k) i x)) (λ k m. ap (λ p. as_one (Has p i x)) (omega arith)) in
      omega (arith, row_with first row r.0 i x some l, rows_with_is rows (first + 1) r.1 i x some l, total_front (length rows) (λ k. as_one (Has (first + k) i x)), here, rest)

  -- what the rows of neighbours give to a model, worker by worker
  rows_give : (rows : List Row) (first : ℕ) → AreRows rack dates precedes b D first rows → (i : ℕ) → 1 ≤ i → total (rack.grain * D) (rows_with rows i) ≡ total (length rows) (λ k. given_at i (first + k))
  rows_give rows first r i some =
      total_same (rack.grain * D) _ _ (λ x l. rows_with_is rows first r i x some l)
      ∙ total_swap (rack.grain * D) (length rows) (λ x k. as_one (Has (first + k) i x))

  -- a piece that comes first on one worker and one that comes last on another do not meet
  meet : (p q : ℕ) (mirrored : Bool) (i x : ℕ) → IsTrue (is_model_of rack i) → x < head_of mirrored p (rack.pieces i) * D → (rack.grain - tail_of mirrored q (rack.pieces i)) * D ≤ x → ⊥
  meet p q mirrored i x m a c =
      let fine = fine_of ok i m in
      clash rack.grain D _ _ x (omega (arith, two_ends mirrored p q (rack.pieces i), fine.sizes, fine.fits)) a c

  -- at a part of the interval a model is on one worker at most
  same_worker : (i p q x : ℕ) → x < rack.grain * D → b.mirrored (rack.group p) ≡ b.mirrored (rack.group q) → IsTrue (is_model_of rack i) → Holds rack dates precedes b D p i x → Holds rack dates precedes b D q i x → p ≡ q
  same_worker i p q x l m k (at_head a) (at_head c) = omega (arith, (head_worker _ p (rack.pieces i) (pos_from _ D x a)).1, (head_worker _ q (rack.pieces i) (pos_from _ D x (rw (← m) at c))).1)
  same_worker i p q x l m k (at_tail a) (at_tail c) = omega (arith, (head_worker _ p (rack.pieces i) (tail_some rack.grain _ D x a l)).1, (head_worker _ q (rack.pieces i) (tail_some rack.grain _ D x (rw (← m) at c) l)).1)
  same_worker i p q x l m k (at_head a) (at_tail c) = absurd (meet p q (b.mirrored (rack.group p)) i x k a (rw (← m) at c))
  same_worker i p q x l m k (at_tail a) (at_head c) = absurd (meet q p (b.mirrored (rack.group q)) i x k c (rw m at a))
  same_worker i p q x l m k (at_head a) (at_turn w o t c) = absurd (let e = (whole_worker q (rack.pieces i) w).1 in both_ways _ e (head_worker _ p (rack.pieces i) (pos_from _ D x a)).0)
  same_worker i p q x l m k (at_turn w o t c) (at_head a) = absurd (let e = (whole_worker p (rack.pieces i) w).1 in both_ways _ e (head_worker _ q (rack.pieces i) (pos_from _ D x a)).0)
  same_worker i p q x l m k (at_tail a) (at_turn w o t c) = absurd (let e = (whole_worker q (rack.pieces i) w).1 in both_ways _ e (head_worker _ p (rack.pieces i) (tail_some rack.grain _ D x a l)).0)
  same_worker i p q x l m k (at_turn w o t c) (at_tail a) = absurd (let e = (whole_worker p (rack.pieces i) w).1 in both_ways _ e (head_worker _ q (rack.pieces i) (tail_some rack.grain _ D x a l)).0)
  same_worker i p q x l m k (at_turn w o t c) (at_turn w' o' t' c') = omega (arith, (whole_worker p (rack.pieces i) w).0, (whole_worker q (rack.pieces i) w').0)

  -- the group of a worker that has a model is the model's
  pub has_group : (i p x : ℕ) → x < rack.grain * D → IsTrue (Has p i x) → rack.group p ≡ group_with rack i
  has_group i p x l has =
      let h = holds rack dates precedes b D p i x has in
      let fine = fine_of ok i (live_model ok dates b i h.0) in
      elim (holder_worker ok dates b precedes D p i x l h.1) [
        | inl here ↦ ap rack.group (sym here)
        | inr there ↦ ap rack.group (sym (divided_last (rack.pieces i) there.0 ∙ there.1)) ∙ sym fine.together
      ]

  one_at_most : (i p q x : ℕ) → x < rack.grain * D → 1 ≤ as_one (Has p i x) → 1 ≤ as_one (Has q i x) → p ≡ q
  one_at_most i p q x l here there =
      let hp : IsTrue (Has p i x) = true_of _ here in
      let hq : IsTrue (Has q i x) = true_of _ there in
      let kp = holds rack dates precedes b D p i x hp in
      let kq = holds rack dates precedes b D q i x hq in
      same_worker i p q x l (ap b.mirrored (has_group i p x l hp ∙ sym (has_group i q x l hq))) (live_model ok dates b i kp.0) kp.1 kq.1

  module _ (rows : List Row) (first : ℕ) (are : AreRows rack dates precedes b D first rows) where
    pub rows_with_one : (i x : ℕ) → 1 ≤ i → x < rack.grain * D → rows_with rows i x ≤ 1
    rows_with_one i x some l = rw (rows_with_is rows first are i x some l) (total_at_most_one (length rows) _ (λ k m. as_one_le _) (λ j k m n hj hk. let e : first + j ≡ first + k = one_at_most i (first + j) (first + k) x l hj hk in omega arith))

    pub rows_with_dead : (i x : ℕ) → 1 ≤ i → x < rack.grain * D → IsFalse (is_live rack dates b i) → rows_with rows i x ≡ 0
    rows_with_dead i x some l dead = rows_with_is rows first are i x some l ∙ total_none (length rows) _ (λ k m. ap as_one (has_not_live i (first + k) x dead))

    module _ (g last : ℕ) (workers : Group rack.group rack.workers g first last) (all : first + length rows ≡ last + 1) where
      group_of_row : (k : ℕ) → k < length rows → rack.group (first + k) ≡ g
      group_of_row k l = workers.inside (first + k) (omega arith) (omega arith)

      pub rows_with_none : (i x : ℕ) → 1 ≤ i → x < rack.grain * D → (group_with rack i ≡ g → ⊥) → rows_with rows i x ≡ 0
      rows_with_none i x some l other = rows_with_is rows first are i x some l ∙ total_none (length rows) _ (λ k m. elim (cases_Bool (Has (first + k) i x)) [
        | inl has ↦ absurd (other (sym (has_group i (first + k) x l has) ∙ group_of_row k m))
        | inr none ↦ rw none refl
      ])

      -- a live divided model of the group gets its weight times the interval's ticks
      pub rows_give_divided : (i : ℕ) → IsTrue (is_live rack dates b i) → IsTrue (is_divided (rack.pieces i)) → group_with rack i ≡ g → total (rack.grain * D) (rows_with rows i) ≡ rack.weight i * D
      rows_give_divided i live d here =
          let model = live_model ok dates b i live in
          let bounds = model_bounds ok i model in
          let fine = fine_of ok i model in
          let x = rack.pieces i in
          let low = workers.only (worker_of x) fine.from (omega (arith, fine.to, divided_last x d)) here in
          let high = workers.only (worker_of x + 1) (omega arith) (omega (arith, fine.to, divided_last x d)) (ap rack.group (sym (divided_last x d)) ∙ sym fine.together ∙ here) in
          let each = total_same (length rows) (λ k. given_at i (first + k)) (λ k. (first_on (first + k) x + second_on (first + k) x) * D) (λ k m. given_divided i (first + k) live d ∙ ap (λ n. n * D) (both_ends (b.mirrored (rack.group (first + k))) (first + k) x)) in
          let sum = pieces_over (length rows) first x d low.0 (omega (arith, high.1)) in
          rows_give rows first are i bounds.0 ∙ each ∙ total_times (length rows) (λ k. first_on (first + k) x + second_on (first + k) x) D ∙ ap (λ n. n * D) (sum ∙ fine.sizes)

      -- a live undivided model of the group gets what its turn lasts
      pub rows_give_whole : (i : ℕ) → IsTrue (is_live rack dates b i) → IsTrue (whole_on (worker_of (rack.pieces i)) (rack.pieces i)) → group_with rack i ≡ g → total (rack.grain * D) (rows_with rows i) ≡ turn_of i (worker_of (rack.pieces i))
      rows_give_whole i live w here =
          let model = live_model ok dates b i live in
          let bounds = model_bounds ok i model in
          let fine = fine_of ok i model in
          let x = rack.pieces i in
          let whole = (whole_worker (worker_of x) x w).1 in
          let in_group = workers.only (worker_of x) fine.from (omega (arith, fine.to, whole_last x whole)) here in
          let one = total_at (length rows) first (worker_of x) (given_at i) in_group.0 (omega (arith, in_group.1)) (λ p ne. given_elsewhere i p (λ e. ne (sym e)) (λ d e. both_ways _ whole d)) in
          rows_give rows first are i bounds.0 ∙ one ∙ given_whole i (worker_of x) live w
