-- Who may have a worker, and for how many parts.
use Rattle.std.proofs.Common.{◌≡◌, ℕ, zero, suc, ◌+◌, ◌-◌, ◌*◌, ◌<◌, ◌≤◌, Bool, true, false, cond, not, ◌&&◌, ◌||◌, min, ◌⊎◌, inl, inr, refl, ap, sym, ◌∙◌, mul-le-mul_right, add-mul, arith}
use Rattle.std.specs.Bool.{IsTrue, nat_lt, nat_le}
use Rattle.std.proofs.lemmas.Bool.{cases_eq, and_parts, or_cases, ltb-true, leb-true}
use Rattle.std.proofs.lemmas.Bool.Decides.{nat_tests}
use Rattle.order.specs.Laws.{OrderLaws}
use Rattle.kinds.specs.declared.runs.Run.{Run}
use Rattle.plan.specs.Shares.{worker_of, on_worker}
use Rattle.book.specs.Sums.{total, up_to}
use Rattle.book.specs.Racks.{Rack, is_divided, whole_on}
use Rattle.book.specs.Books.{Book, is_model_of, in_use, is_live, left, run_of}
use Rattle.book.specs.Turns.{head_of, head, tail, opens, closes, ahead, takes_turns, has}
use Rattle.book.proofs.Sums.{total_same, total_add, at_le_up_to, two_le_total, total_within}
use Rattle.book.proofs.Lineup.{IsLineup, before, cover}
use Rattle.book.proofs.Racks.{IsRack, IsFine, within_both}
use Rattle.book.proofs.Pieces.{whole_size, on_worker_is, head_worker, end_worker, whole_worker}

pub pos_from : (a D x : ℕ) → x < a * D → 0 < a
pos_from zero D x l = absurd (omega arith)
pos_from (suc a) D x l = omega arith

-- what ends at part (G - a) * D cannot go on to part G * D
pub tail_some : (G a D x : ℕ) → (G - a) * D ≤ x → x < G * D → 0 < a
tail_some G zero D x l m = let all : (G - 0) * D ≡ G * D = ap (λ g. g * D) (omega arith) in absurd (omega arith)
tail_some G (suc a) D x l m = omega arith

-- two pieces at the ends of a worker do not meet
pub clash : (G D a t x : ℕ) → a + t ≤ G → x < a * D → (G - t) * D ≤ x → ⊥
clash G D a t x fit l m = omega (arith, mul-le-mul_right D (let h : a ≤ G - t = omega arith in h))

-- how many parts the two ends of an interval have together
pub ends_count : (G D h t : ℕ) → h + t ≤ G → total (G * D) (λ x. cond (nat_lt x (h * D) || nat_le ((G - t) * D) x) 1 0) ≡ (h + t) * D
ends_count G D h t fit =
    let low : h * D ≤ (G - t) * D = mul-le-mul_right D (omega arith) in
    let all : (G - t) * D + t * D ≡ G * D = sym (add-mul (G - t) t D) ∙ ap (λ g. g * D) (omega arith) in
    let both = add-mul h t D in
    let parts = total_same (G * D) (λ x. cond (nat_lt x (h * D) || nat_le ((G - t) * D) x) 1 0) (λ x. cond (nat_le 0 x && nat_lt x (h * D)) 1 0 + cond (nat_le ((G - t) * D) x && nat_lt x (G * D)) 1 0) (λ x l. grind (arith, nat_tests)) in
    omega (arith, parts, total_add (G * D) (λ x. cond (nat_le 0 x && nat_lt x (h * D)) 1 0) (λ x. cond (nat_le ((G - t) * D) x && nat_lt x (G * D)) 1 0), total_within (G * D) 0 (h * D), total_within (G * D) ((G - t) * D) (G * D))

-- how many parts a run gets between the two pieces
pub turn_count : (n O C a l : ℕ) → C ≤ n → total n (λ x. cond (nat_le (O + a) x && nat_lt x (O + a + l) && nat_lt x C) 1 0) ≡ min (C - O) (a + l) - a
turn_count n O C a l short =
    let same = total_same n (λ x. cond (nat_le (O + a) x && nat_lt x (O + a + l) && nat_lt x C) 1 0) (λ x. cond (nat_le (O + a) x && nat_lt x (min (O + a + l) C)) 1 0) (λ x l'. grind (arith, nat_tests)) in
    omega (arith, same, total_within n (O + a) (min (O + a + l) C))

module _ (rack : Rack) (dates : ℕ → ℕ → Bool) (precedes : Run → Run → Bool) (b : Book) (D p : ℕ) where
  -- the ways in which model i may have worker p at part x
  pub data Holds (i x : ℕ) : Type 0 where
    at_head : x < head rack b p i * D → Holds i x
    at_tail : (rack.grain - tail rack b p i) * D ≤ x → Holds i x
    at_turn : IsTrue (whole_on p (rack.pieces i)) → opens rack b p D + ahead rack dates precedes b p i ≤ x
        → x < opens rack b p D + ahead rack dates precedes b p i + left rack dates b i → x < closes rack b p D → Holds i x

  pub holds : (i x : ℕ) → IsTrue (has rack dates precedes b D p i x) → IsTrue (is_live rack dates b i) × Holds i x
  holds i x h =
      let parts = and_parts _ _ h in (
        parts.0,
        elim (or_cases _ _ parts.1) [
          | inl ends ↦ elim (or_cases _ _ ends) [
            | inl front ↦ at_head (ltb-true _ _ front)
            | inr back ↦ at_tail (leb-true _ _ back)
          ]
          | inr turn ↦
              let t = and_parts _ _ turn in
              let u = and_parts _ _ t.0 in
              let v = and_parts _ _ u.0 in
              at_turn v.0 (leb-true _ _ v.1) (ltb-true _ _ u.1) (ltb-true _ _ t.1)
        ],
      )

turn_test : (b' w a l o x : ℕ) → b' ≡ a → w ≡ l → o + a ≤ x → x < o + a + l → 1 ≤ cond (nat_le b' (x - o) && nat_lt (x - o) (b' + w)) 1 0
turn_test b' w a l o x e f low high = grind (arith, nat_tests)

swap_tests : (p q : Bool) (x : ℕ) → cond (p && q) x 0 ≡ cond q (cond p x 0) 0
swap_tests true true x = refl
swap_tests true false x = refl
swap_tests false true x = refl
swap_tests false false x = refl

module _ {rack : Rack} (ok : IsRack rack) where
  pub model_bounds : (i : ℕ) → IsTrue (is_model_of rack i) → (1 ≤ i) × (i ≤ rack.models)
  model_bounds i h = within_both 1 rack.models i h

  pub fine_of : (i : ℕ) → IsTrue (is_model_of rack i) → IsFine rack i
  fine_of i h = let m = model_bounds i h in ok.fine i m.0 m.1

  module _ (dates : ℕ → ℕ → Bool) (b : Book) where
    live_in_use : (i : ℕ) → IsTrue (is_live rack dates b i) → IsTrue (in_use rack b i)
    live_in_use i h = (and_parts _ _ h).0

    pub live_model : (i : ℕ) → IsTrue (is_live rack dates b i) → IsTrue (is_model_of rack i)
    live_model i h = (and_parts _ _ (live_in_use i h)).0

    module _ (precedes : Run → Run → Bool) (D p : ℕ) where
      abbrev Has : ℕ → ℕ → Bool
      Has = has rack dates precedes b D p

      abbrev Head : ℕ → ℕ
      Head = head rack b p

      abbrev Tail : ℕ → ℕ
      Tail = tail rack b p

      -- all pieces and undivided models of a worker fit
      pub room : 1 ≤ p → p ≤ rack.workers → up_to rack.models Head + up_to rack.models Tail + up_to rack.models (λ i. whole_size p (rack.pieces i)) ≤ rack.grain
      room some last =
          let n = rack.models in
          let m = b.mirrored (rack.group p) in
          let all = total_same n (λ k. on_worker p (rack.pieces (k + 1))) (λ k. Head (k + 1) + Tail (k + 1) + whole_size p (rack.pieces (k + 1))) (λ k l. on_worker_is m p (rack.pieces (k + 1))) in
          omega (arith, ok.loaded p some last, all, total_add n (λ k. Head (k + 1) + Tail (k + 1)) (λ k. whole_size p (rack.pieces (k + 1))), total_add n (λ k. Head (k + 1)) (λ k. Tail (k + 1)))

      -- a worker has parts of a model only if it is one of the model's two
      pub holder_worker : (i x : ℕ) → x < rack.grain * D → Holds rack dates precedes b D p i x → (worker_of (rack.pieces i) ≡ p) ⊎ (IsTrue (is_divided (rack.pieces i)) × (worker_of (rack.pieces i) + 1 ≡ p))
      holder_worker i x l (at_head m) = end_worker (b.mirrored (rack.group p)) p (rack.pieces i) (pos_from (Head i) D x m)
      holder_worker i x l (at_tail m) = end_worker (not (b.mirrored (rack.group p))) p (rack.pieces i) (tail_some rack.grain (Tail i) D x m l)
      holder_worker i x l (at_turn w o a c) = inl (whole_worker p (rack.pieces i) w).0

      -- two models with a piece at the same end are one
      pub one_end : (mirrored : Bool) (i j : ℕ) → IsTrue (is_model_of rack i) → IsTrue (is_model_of rack j) → 0 < head_of mirrored p (rack.pieces i) → 0 < head_of mirrored p (rack.pieces j) → i ≡ j
      one_end mirrored i j mi mj hi hj =
          let bi = model_bounds i mi in
          let bj = model_bounds j mj in
          let wi = head_worker mirrored p (rack.pieces i) hi in
          let wj = head_worker mirrored p (rack.pieces j) hj in
          ok.one_first i j bi.0 bi.1 bj.0 bj.1 wi.0 wj.0 (omega arith)

      module _ (order : OrderLaws (λ (r : Run). r.model) (λ (r : Run). r.deadline) precedes) where
        -- the runs of models 1, 2, .. in the order, and what is left of those that wait for this worker
        abbrev pub prec : ℕ → ℕ → Bool
        prec j k = precedes (run_of rack dates b (j + 1)) (run_of rack dates b (k + 1))

        abbrev pub waits : ℕ → ℕ
        waits j = cond (takes_turns rack dates b p (j + 1)) (left rack dates b (j + 1)) 0

        pub lineup : IsLineup prec
        lineup = record {
          never = λ j. order.never_itself _;
          carries = λ i j k. order.carries _ _ _;
          one_of_two = λ j k ne. order.one_of_two _ _ (λ e. ne (omega arith));
        }

        pub ahead_is : (k : ℕ) → ahead rack dates precedes b p (k + 1) ≡ before prec waits rack.models k
        ahead_is k = total_same rack.models _ _ (λ j l. swap_tests (takes_turns rack dates b p (j + 1)) (prec j k) (left rack dates b (j + 1)))

        abbrev Opens : ℕ
        Opens = opens rack b p D

        abbrev pub turn_at : ℕ → ℕ → ℕ
        turn_at y k = cond (nat_le (before prec waits rack.models k) y && nat_lt y (before prec waits rack.models k + waits k)) 1 0

        -- at a part in its turn a run is the one that is served
        pub in_turn_one : (i x : ℕ) → IsTrue (is_live rack dates b i) → IsTrue (whole_on p (rack.pieces i)) → Opens + ahead rack dates precedes b p i ≤ x → x < Opens + ahead rack dates precedes b p i + left rack dates b i
            → 1 ≤ turn_at (x - Opens) (i - 1)
        in_turn_one i x live whole low high =
            let m = model_bounds i (live_model i live) in
            let e : i - 1 + 1 ≡ i = omega arith in
            let front : before prec waits rack.models (i - 1) ≡ ahead rack dates precedes b p i = sym (ahead_is (i - 1)) ∙ ap (ahead rack dates precedes b p) e in
            let rest : waits (i - 1) ≡ left rack dates b i = ap (λ j. cond (takes_turns rack dates b p j) (left rack dates b j) 0) e ∙ rw (live, whole) refl in
            turn_test _ _ _ _ Opens x front rest low high

        pub head_le : (i : ℕ) → IsTrue (is_live rack dates b i) → Head i ≤ up_to rack.models Head
        head_le i v = let m = model_bounds i (live_model i v) in at_le_up_to rack.models Head i m.0 m.1

        pub tail_le : (i : ℕ) → IsTrue (is_live rack dates b i) → Tail i ≤ up_to rack.models Tail
        tail_le i v = let m = model_bounds i (live_model i v) in at_le_up_to rack.models Tail i m.0 m.1

        -- at a part of the interval one model at most has the worker
        both_hold : 1 ≤ p → p ≤ rack.workers → (i j x : ℕ) → x < rack.grain * D → IsTrue (is_live rack dates b i) → IsTrue (is_live rack dates b j) → Holds rack dates precedes b D p i x → Holds rack dates precedes b D p j x → i ≡ j
        both_hold some last i j x l vi vj (at_head a) (at_head c) = one_end (b.mirrored (rack.group p)) i j (live_model i vi) (live_model j vj) (pos_from (Head i) D x a) (pos_from (Head j) D x c)
        both_hold some last i j x l vi vj (at_tail a) (at_tail c) = one_end (not (b.mirrored (rack.group p))) i j (live_model i vi) (live_model j vj) (tail_some rack.grain (Tail i) D x a l) (tail_some rack.grain (Tail j) D x c l)
        both_hold some last i j x l vi vj (at_head a) (at_tail c) = absurd (clash rack.grain D (Head i) (Tail j) x (omega (arith, room some last, head_le i vi, tail_le j vj)) a c)
        both_hold some last i j x l vi vj (at_tail a) (at_head c) = absurd (clash rack.grain D (Head j) (Tail i) x (omega (arith, room some last, head_le j vj, tail_le i vi)) c a)
        both_hold some last i j x l vi vj (at_head a) (at_turn w o t c) = absurd (omega (arith, mul-le-mul_right D (head_le i vi)))
        both_hold some last i j x l vi vj (at_turn w o t c) (at_head a) = absurd (omega (arith, mul-le-mul_right D (head_le j vj)))
        both_hold some last i j x l vi vj (at_tail a) (at_turn w o t c) = absurd (omega (arith, mul-le-mul_right D (let h : rack.grain - up_to rack.models Tail ≤ rack.grain - Tail i = omega (arith, tail_le i vi) in h)))
        both_hold some last i j x l vi vj (at_turn w o t c) (at_tail a) = absurd (omega (arith, mul-le-mul_right D (let h : rack.grain - up_to rack.models Tail ≤ rack.grain - Tail j = omega (arith, tail_le j vj) in h)))
        both_hold some last i j x l vi vj (at_turn w o t c) (at_turn w' o' t' c') = elim (cases_eq (i - 1) (j - 1)) [
          | inl same ↦ let bi = model_bounds i (live_model i vi) in let bj = model_bounds j (live_model j vj) in omega arith
          | inr apart ↦
              let bi = model_bounds i (live_model i vi) in
              let bj = model_bounds j (live_model j vj) in
              let two = two_le_total rack.models (turn_at (x - Opens)) (i - 1) (j - 1) (omega arith) (omega arith) apart in
              let one = cover prec lineup waits rack.models (x - Opens) in
              let small : cond (nat_lt (x - Opens) (total rack.models waits)) 1 0 ≤ 1 = grind (arith, nat_tests) in
              absurd (omega (arith, two, in_turn_one i x vi w o t, in_turn_one j x vj w' o' t', one, small))
        ]

        pub one_holder : 1 ≤ p → p ≤ rack.workers → (i j x : ℕ) → x < rack.grain * D → IsTrue (Has i x) → IsTrue (Has j x) → i ≡ j
        one_holder some last i j x l hi hj =
            let ki = holds rack dates precedes b D p i x hi in
            let kj = holds rack dates precedes b D p j x hj in
            both_hold some last i j x l ki.0 kj.0 ki.1 kj.1
