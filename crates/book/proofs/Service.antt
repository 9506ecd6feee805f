-- An interval keeps a book sound: every run is served in time.
use Rattle.std.proofs.Common.{◌≡◌, ℕ, ◌+◌, ◌-◌, ◌*◌, ◌<◌, ◌≤◌, Bool, true, false, cond, ◌&&◌, min, inl, inr, refl, ap, sym, ◌∙◌, subst, mul-add, mul-le-mul_right, arith}
use Rattle.std.proofs.Math.Nat.{mul-sub}
use Rattle.std.specs.Bool.{IsTrue}
use Rattle.std.proofs.lemmas.Bool.{cases_Bool, cases_lt, cases_eq, both_ways, and_parts, and_from, cond-true, cond-false, eq-eqb, ne_eqb}
use Rattle.order.specs.Laws.{OrderLaws}
use Rattle.kinds.specs.declared.runs.Run.{Run}
use Rattle.plan.specs.Shares.{worker_of}
use Rattle.book.specs.Racks.{Rack, is_divided, whole_on, first_on, second_on}
use Rattle.book.specs.Sheets.{Sheet, got}
use Rattle.book.specs.Books.{Book, entered, is_model_of, group_with, present_of, in_use, date_of, deadline_of, is_live, served, left, run_of}
use Rattle.book.specs.Turns.{head_of, tail_of, opens, closes, ahead, takes_turns, IsNext}
use Rattle.book.proofs.Sums.{total_same, total_add}
use Rattle.book.proofs.Racks.{IsRack}
use Rattle.book.proofs.Lineup.{IsLineup, before, given}
use Rattle.book.proofs.Claims.{State, gone, waiting, live, claim, left_of, after, Covered, complete, served_within, within_from, begun, ended}
use Rattle.book.proofs.Holders.{fine_of, model_bounds, waits, prec, lineup, ahead_is}
use Rattle.book.proofs.Lives.{KeepsApart, lives, used_model, live_from}
use Rattle.book.proofs.Given.{turn_of, rows_give_divided, rows_give_whole}
use Rattle.book.proofs.Entered.{D, rises, present_here, present_elsewhere, sheet_gives, entered_alone, entered_past, got_elsewhere, got_before, got_through}
use Rattle.book.proofs.Changes.{stays, stops, renews, waits as waits_on, begins, not_sooner, no_date_within, change, same_live, same_date}
use Rattle.book.proofs.Sound.{Sound, supply, weight_on, phase_at, fits, got_empty, new_claim, phase_live, phase_waiting}
use Rattle.book.proofs.Pieces.{whole_worker, both_ends, whole_at, whole_last}

-- what a model that takes turns still needs is what its phase says
waits_phase : (u m w : Bool) (e l : ℕ) → cond (u && m && w) l 0 ≡ left_of (cond (u && w) (cond (u && m) (live e l) waiting) gone)
waits_phase true true true e l = refl
waits_phase true true false e l = refl
waits_phase true false true e l = refl
waits_phase true false false e l = refl
waits_phase false m w e l = refl

-- whose phase is a run has it
live_phase : (on alive : Bool) (d l e m : ℕ) → cond on (cond alive (live d l) waiting) gone ≡ live e m → (d ≡ e) × (l ≡ m) × (on ≡ true) × (alive ≡ true)
live_phase true true d l e m h = (cc, cc, refl, refl)
live_phase true false d l e m h = absurd (cc)
live_phase false alive d l e m h = absurd (cc)

-- the parts between two pieces, by ticks
cut : (G H T F L : ℕ) → F ≡ H + T → (G - T) * L - H * L ≡ (G - F) * L
cut G H T F L e =
    let same : G - F ≡ G - T - H = omega arith in
    omega (arith, mul-sub L (G - T) H, ap (λ n. L * n) same)

-- weights add up over ticks
weights : (w a z c x y : ℕ) → x ≡ w * a → y ≡ w * z → c ≡ a + z → x + y ≡ w * c
weights w a z c x y e f h = omega (arith, mul-add w a z, ap (λ n. w * n) h)

-- over no ticks a weight comes to nothing
none_since : (w t d : ℕ) → t ≡ d → 0 ≡ w * (t - d)
none_since w t d e = let z : t - d ≡ 0 = omega arith in omega (arith, ap (λ n. w * n) z)

module _ {rack : Rack} (ok : IsRack rack) {dates : ℕ → ℕ → Bool} (apart : KeepsApart rack dates) where
  module _ {precedes : Run → Run → Bool} (order : OrderLaws (λ (r : Run). r.model) (λ (r : Run). r.deadline) precedes) (b : Book) (g : ℕ) (s : Sheet) (next : IsNext rack dates precedes b g s) (sound : Sound rack dates b) where
    abbrev Long : ℕ
    Long = D ok dates precedes b g s next

    abbrev gives : ℕ → ℕ
    gives = sheet_gives ok dates precedes b g s next

    positive : (i : ℕ) → IsTrue (is_model_of rack i) → 1 ≤ i
    positive i m = (model_bounds ok i m).0

    of_use : (i : ℕ) → IsTrue (in_use rack b i) → IsTrue (is_model_of rack i)
    of_use i used = used_model rack b i used

    -- what a run has got by the end of the interval: nothing if it begins there, else what the sheet gives more
    served_new : (i : ℕ) → group_with rack i ≡ g → date_of rack dates (entered b s) i ≡ s.end → served rack dates (entered b s) i ≡ 0
    served_new i here is = got_empty ok apart (entered b s).sheets i _ _ (ap (λ n. n * rack.grain) (is ∙ sym (present_here ok dates precedes b g s next i here)))

    -- a run that goes on has got what the sheet gives it more
    served_more : (i : ℕ) → IsTrue (is_live rack dates b i) → group_with rack i ≡ g → date_of rack dates (entered b s) i ≡ date_of rack dates b i → served rack dates (entered b s) i ≡ served rack dates b i + gives i
    served_more i alive here same =
        let l = lives rack dates b i alive in
        let now : present_of rack b i ≡ s.start = ap b.present here ∙ sym next.start' in
        let through = got_through ok dates precedes b g s next i (date_of rack dates b i * rack.grain) (positive i (of_use i l.used)) here (mul-le-mul_right rack.grain (omega (arith, l.begun, now))) (λ y. sound.past i y (positive i (of_use i l.used))) in
        ap (λ d. got rack.grain (entered b s).sheets i (d * rack.grain) (present_of rack (entered b s) i * rack.grain)) same
        ∙ ap (λ t. got rack.grain (entered b s).sheets i (date_of rack dates b i * rack.grain) (t * rack.grain)) (present_here ok dates precedes b g s next i here)
        ∙ through

    -- a model of another group has got what it had
    served_else : (i : ℕ) → IsTrue (is_model_of rack i) → (group_with rack i ≡ g → ⊥) → served rack dates (entered b s) i ≡ served rack dates b i
    served_else i m other =
        got_elsewhere ok dates precedes b g s next i _ _ (positive i m) other
        ∙ ap (λ d. got rack.grain b.sheets i (d * rack.grain) (present_of rack (entered b s) i * rack.grain)) (same_date ok apart precedes b g s next i other)
        ∙ ap (λ t. got rack.grain b.sheets i (date_of rack dates b i * rack.grain) (t * rack.grain)) (present_elsewhere ok dates precedes b g s next i other)

    -- the interval takes the group to its end
    now_then : (i : ℕ) → group_with rack i ≡ g → (present_of rack b i + Long ≡ s.end)
    now_then i here = omega (arith, ap b.present here, next.start', rises ok dates precedes b g s next)

    -- a divided run is given its share
    gives_share : (i : ℕ) → IsTrue (is_divided (rack.pieces i)) → IsTrue (is_live rack dates b i) → group_with rack i ≡ g → gives i ≡ rack.weight i * Long
    gives_share i d alive here = rows_give_divided ok dates precedes b Long s.rows s.first next.rows' g next.last next.workers next.all i alive d here

    -- so it has its even share after the interval
    shares_then : (i : ℕ) → IsTrue (is_divided (rack.pieces i)) → IsTrue (is_live rack dates (entered b s) i) → served rack dates (entered b s) i ≡ rack.weight i * (present_of rack (entered b s) i - date_of rack dates (entered b s) i)
    shares_then i d alive =
        let used : IsTrue (in_use rack b i) = (lives rack dates (entered b s) i alive).used in
        elim (cases_eq (group_with rack i) g) [
          | inr other ↦
              let before : IsTrue (is_live rack dates b i) = sym (same_live ok apart precedes b g s next i other) ∙ alive in
              served_else i (of_use i used) other ∙ sound.shares i d before
              ∙ ap (λ n. rack.weight i * (present_of rack b i - n)) (sym (same_date ok apart precedes b g s next i other))
              ∙ ap (λ n. rack.weight i * (n - date_of rack dates (entered b s) i)) (sym (present_elsewhere ok dates precedes b g s next i other))
          | inl here ↦
              let then = present_here ok dates precedes b g s next i here in
              elim (change ok apart precedes b g s next i used here) [
                | stays old later a same ↦
                    let l = lives rack dates b i old in
                    let span : present_of rack (entered b s) i - date_of rack dates (entered b s) i ≡ (present_of rack b i - date_of rack dates b i) + Long = omega (arith, then, same, l.begun, now_then i here) in
                    served_more i old here same ∙ weights (rack.weight i) _ _ _ _ _ (sound.shares i d old) (gives_share i d old here) span
                | stops old e dead ↦ absurd (both_ways _ dead alive)
                | renews old e a is ↦ served_new i here is ∙ none_since (rack.weight i) _ _ (omega (arith, then, is))
                | waits_on old dead ↦ absurd (both_ways _ dead alive)
                | begins old a is ↦ served_new i here is ∙ none_since (rack.weight i) _ _ (omega (arith, then, is))
              ]
        ]

    -- an undivided run is given its turn, and that is at most what it needs
    gives_turn : (i : ℕ) → IsTrue (whole_on (worker_of (rack.pieces i)) (rack.pieces i)) → IsTrue (is_live rack dates b i) → group_with rack i ≡ g → gives i ≡ turn_of ok dates precedes b Long i (worker_of (rack.pieces i))
    gives_turn i w alive here = rows_give_whole ok dates precedes b Long s.rows s.first next.rows' g next.last next.workers next.all i alive w here

    gives_at_most : (i : ℕ) → IsTrue (whole_on (worker_of (rack.pieces i)) (rack.pieces i)) → IsTrue (is_live rack dates b i) → group_with rack i ≡ g → gives i ≤ left rack dates b i
    gives_at_most i w alive here = omega (arith, gives_turn i w alive here)

    -- so no undivided run has more than it needs
    bounded_then : (i : ℕ) → IsTrue (whole_on (worker_of (rack.pieces i)) (rack.pieces i)) → IsTrue (is_live rack dates (entered b s) i) → served rack dates (entered b s) i ≤ rack.parts i
    bounded_then i w alive =
        let used : IsTrue (in_use rack b i) = (lives rack dates (entered b s) i alive).used in
        elim (cases_eq (group_with rack i) g) [
          | inr other ↦
              let before : IsTrue (is_live rack dates b i) = sym (same_live ok apart precedes b g s next i other) ∙ alive in
              omega (arith, served_else i (of_use i used) other, sound.bounded i w before)
          | inl here ↦ elim (change ok apart precedes b g s next i used here) [
            | stays old later a same ↦ omega (arith, served_more i old here same, sound.bounded i w old, gives_at_most i w old here)
            | stops old e dead ↦ absurd (both_ways _ dead alive)
            | renews old e a is ↦ omega (arith, served_new i here is)
            | waits_on old dead ↦ absurd (both_ways _ dead alive)
            | begins old a is ↦ omega (arith, served_new i here is)
          ]
        ]

    -- of the models of one worker
    module _ (p : ℕ) (from_one : 1 ≤ p) (to_last : p ≤ rack.workers) where
      abbrev Phases : ℕ → State
      Phases k = phase_at rack dates b p (k + 1)

      abbrev Prec : ℕ → ℕ → Bool
      Prec = prec ok dates b precedes Long p order

      abbrev Left : ℕ → ℕ
      Left k = left_of (Phases k)

      abbrev Given : ℕ → ℕ
      Given k = given Prec (supply rack dates p * Long) Left rack.models k

      -- what a model's run still needs, as its turn and as its claim have it
      waits_left : (k : ℕ) → waits ok dates b precedes Long p order k ≡ Left k
      waits_left k = waits_phase (in_use rack b (k + 1)) _ (whole_on p (rack.pieces (k + 1))) (deadline_of rack dates b (k + 1)) (left rack dates b (k + 1))

      -- the parts between the two pieces are the supply of the interval's ticks
      span_is : closes rack b p Long - opens rack b p Long ≡ supply rack dates p * Long
      span_is =
          let n = rack.models in
          let m = b.mirrored (rack.group p) in
          let ends = total_same n (λ k. head_of m p (rack.pieces (k + 1)) + tail_of m p (rack.pieces (k + 1))) (λ k. first_on p (rack.pieces (k + 1)) + second_on p (rack.pieces (k + 1))) (λ k l. both_ends m p (rack.pieces (k + 1))) in
          cut rack.grain _ _ _ Long (sym ends ∙ total_add n (λ k. head_of m p (rack.pieces (k + 1))) (λ k. tail_of m p (rack.pieces (k + 1))))

      -- an undivided run is given what its turn in line gives it
      given_is : (k : ℕ) → k < rack.models → IsTrue (whole_on p (rack.pieces (k + 1))) → IsTrue (is_live rack dates b (k + 1)) → rack.group p ≡ g → gives (k + 1) ≡ Given k
      given_is k l w alive here =
          let i = k + 1 in
          let e : worker_of (rack.pieces i) ≡ p = (whole_worker p (rack.pieces i) w).0 in
          let turn : gives i ≡ turn_of ok dates precedes b Long i p = gives_turn i (subst (λ q. IsTrue (whole_on q (rack.pieces i))) (sym e) w) alive (ap rack.group e ∙ here) ∙ ap (turn_of ok dates precedes b Long i) e in
          let front : ahead rack dates precedes b p i ≡ before Prec Left rack.models k = ahead_is ok dates b precedes Long p order k ∙ total_same rack.models _ _ (λ j m. ap (λ x. cond (Prec j k) x 0) (waits_left j)) in
          let rest : left rack dates b i ≡ Left k = sym (cond-true (takes_turns rack dates b p i) (left rack dates b i) 0 (and_from _ _ alive w)) ∙ waits_left k in
          turn ∙ (λ h. min (span_is h) (front h + rest h) - front h)

      Lines : IsLineup Prec
      Lines = lineup ok dates b precedes Long p order

      abbrev Start : ℕ
      Start = b.present (rack.group p)

      -- an earlier deadline precedes
      earlier_first : (j k e l e' l' : ℕ) → Phases j ≡ live e l → Phases k ≡ live e' l' → e < e' → IsTrue (Prec j k)
      earlier_first j k e l e' l' h h' less =
          let x = live_phase _ _ _ _ e l h in
          let y = live_phase _ _ _ _ e' l' h' in
          order.earlier_first (run_of rack dates b (j + 1)) (run_of rack dates b (k + 1)) (omega (arith, x.0, y.0))

      module _ (here : rack.group p ≡ g) where
        of_worker : (i : ℕ) → IsTrue (whole_on p (rack.pieces i)) → group_with rack i ≡ g
        of_worker i w = ap rack.group (whole_worker p (rack.pieces i) w).0 ∙ here

        ends_at : Start + Long ≡ s.end
        ends_at = omega (arith, ap b.present here, next.start', rises ok dates precedes b g s next)

        -- no run of the worker ends before the interval does
        none_sooner : (j e l : ℕ) → j < rack.models → Phases j ≡ live e l → Start + Long ≤ e
        none_sooner j e l m h =
            let x = live_phase _ _ _ _ e l h in
            let both = and_parts (in_use rack b (j + 1)) (whole_on p (rack.pieces (j + 1))) x.2 in
            omega (arith, x.0, ends_at, not_sooner ok apart precedes b g s next (j + 1) both.0 (of_worker (j + 1) both.1) x.3)

        -- after the service, before runs end and begin
        served_all : Covered rack.models (supply rack dates p) (weight_on rack dates p) (λ k. after (Given k) (Phases k)) (Start + Long)
        served_all = served_within Prec Lines rack.models (supply rack dates p) Long Start (weight_on rack dates p) Phases (fits ok apart p from_one to_last) earlier_first none_sooner (sound.claims p from_one to_last)

        -- a run that ends with the interval, after it was served
        ran : (j : ℕ) → (in_use rack b (j + 1) && whole_on p (rack.pieces (j + 1))) ≡ true → IsTrue (is_live rack dates b (j + 1)) → deadline_of rack dates b (j + 1) ≡ s.end → after (Given j) (Phases j) ≡ live (Start + Long) (left rack dates b (j + 1) - Given j)
        ran j on old e = ap (after (Given j)) (phase_live ok apart b p (j + 1) on old ∙ ap (λ d. live d (left rack dates b (j + 1))) (e ∙ sym ends_at))

        -- nor do models claim more when runs end and begin
        less_then : (j k : ℕ) → j < rack.models → claim (weight_on rack dates p j) (phase_at rack dates (entered b s) p (j + 1)) (Start + Long + k) k ≤ claim (weight_on rack dates p j) (after (Given j) (Phases j)) (Start + Long + k) k
        less_then j k l = elim (cases_Bool (in_use rack b (j + 1) && whole_on p (rack.pieces (j + 1)))) [
          | inr out ↦ rw out (omega arith)
          | inl on ↦
              let i = j + 1 in
              let both = and_parts _ _ on in
              let mine = of_worker i both.1 in
              let w = weight_on rack dates p j in
              let by = λ (x : State). claim w x (Start + Long + k) k in
              let on' : (in_use rack (entered b s) i && whole_on p (rack.pieces i)) ≡ true = on in
              elim (change ok apart precedes b g s next i both.0 mine) [
                | stays old later a same ↦
                    let rest : left rack dates (entered b s) i ≡ left rack dates b i - Given j = omega (arith, served_more i old mine same, given_is j l both.1 old here) in
                    let line : deadline_of rack dates (entered b s) i ≡ deadline_of rack dates b i = ap (λ d. d + rack.period i) same in
                    let all : phase_at rack dates (entered b s) p i ≡ after (Given j) (Phases j) = phase_live ok apart (entered b s) p i on' a ∙ (λ h. live (line h) (rest h)) ∙ sym (ap (after (Given j)) (phase_live ok apart b p i on old)) in
                    omega (arith, ap by all)
                | stops old e dead ↦
                    omega (arith, ap by (phase_waiting ok apart (entered b s) p i on' dead), ap by (ran j on old e), ended w (Start + Long) (left rack dates b i - Given j) k)
                | renews old e a is ↦
                    omega (arith, new_claim ok apart (entered b s) p i (Start + Long) k (λ _. (is ∙ sym ends_at, served_new i mine is)), ap by (ran j on old e), ended w (Start + Long) (left rack dates b i - Given j) k)
                | waits_on old dead ↦
                    omega (arith, ap by (phase_waiting ok apart (entered b s) p i on' dead), ap by (ap (after (Given j)) (phase_waiting ok apart b p i on old)))
                | begins old a is ↦
                    omega (arith, new_claim ok apart (entered b s) p i (Start + Long) k (λ _. (is ∙ sym ends_at, served_new i mine is)), ap by (ap (after (Given j)) (phase_waiting ok apart b p i on old)))
              ]
        ]

        -- so the worker can still give all that may be claimed
        claims_here : Covered rack.models (supply rack dates p) (weight_on rack dates p) (λ k. phase_at rack dates (entered b s) p (k + 1)) ((entered b s).present (rack.group p))
        claims_here =
            let now : (entered b s).present (rack.group p) ≡ Start + Long = cond-true _ _ _ (eq-eqb _ _ (here ∙ sym next.group')) ∙ sym ends_at in
            subst (λ t. Covered rack.models (supply rack dates p) (weight_on rack dates p) (λ k. phase_at rack dates (entered b s) p (k + 1)) t) (sym now)
            (within_from rack.models (supply rack dates p) (Start + Long) (weight_on rack dates p) (λ k. after (Given k) (Phases k)) (λ k. phase_at rack dates (entered b s) p (k + 1)) less_then served_all)

        -- an undivided run that ends with the interval is given all that it needs
        gives_all : (k : ℕ) → k < rack.models → IsTrue (whole_on p (rack.pieces (k + 1))) → IsTrue (is_live rack dates b (k + 1)) → deadline_of rack dates b (k + 1) ≡ s.end → left rack dates b (k + 1) ≤ gives (k + 1)
        gives_all k l w old e =
            let used = (lives rack dates b (k + 1) old).used in
            let none = complete rack.models (supply rack dates p) (weight_on rack dates p) (λ j. after (Given j) (Phases j)) (Start + Long) served_all k _ l (ran k (and_from _ _ used w) old e) in
            omega (arith, none, given_is k l w old here)

      module _ (other : rack.group p ≡ g → ⊥) where
        -- on a worker of another group nothing changes
        same_phase : (i : ℕ) → phase_at rack dates (entered b s) p i ≡ phase_at rack dates b p i
        same_phase i = elim (cases_Bool (in_use rack b i && whole_on p (rack.pieces i))) [
          | inr out ↦ rw out refl
          | inl on ↦
              let both = and_parts (in_use rack b i) (whole_on p (rack.pieces i)) on in
              let off : group_with rack i ≡ g → ⊥ = λ e. other (ap rack.group (sym (whole_worker p (rack.pieces i) both.1).0) ∙ e) in
              let alive = same_live ok apart precedes b g s next i off in
              let date = same_date ok apart precedes b g s next i off in
              let had = served_else i (of_use i both.0) off in
              λ h. cond (in_use rack b i && whole_on p (rack.pieces i)) (cond (alive h) (live (date h + rack.period i) (rack.parts i - had h)) waiting) gone
        ]

        claims_there : Covered rack.models (supply rack dates p) (weight_on rack dates p) (λ k. phase_at rack dates (entered b s) p (k + 1)) ((entered b s).present (rack.group p))
        claims_there =
            let now : (entered b s).present (rack.group p) ≡ Start = cond-false _ _ _ (ne_eqb _ _ (λ e. other (e ∙ next.group'))) in
            subst (λ t. Covered rack.models (supply rack dates p) (weight_on rack dates p) (λ k. phase_at rack dates (entered b s) p (k + 1)) t) (sym now)
            (within_from rack.models (supply rack dates p) Start (weight_on rack dates p) Phases (λ k. phase_at rack dates (entered b s) p (k + 1)) (λ j k l. omega (arith, ap (λ x. claim (weight_on rack dates p j) x (Start + k) k) (same_phase (j + 1)))) (sound.claims p from_one to_last))

    -- each worker can still give all that may be claimed
    claims_then : (p : ℕ) → 1 ≤ p → p ≤ rack.workers → Covered rack.models (supply rack dates p) (weight_on rack dates p) (λ k. phase_at rack dates (entered b s) p (k + 1)) ((entered b s).present (rack.group p))
    claims_then p some last = elim (cases_eq (rack.group p) g) [
      | inl here ↦ claims_here p some last here
      | inr other ↦ claims_there p some last other
    ]

    -- a live run whose deadline is the end of the interval has its parts then
    ends_full : (i : ℕ) → IsTrue (is_live rack dates b i) → group_with rack i ≡ g → deadline_of rack dates b i ≡ s.end → served rack dates b i + gives i ≡ rack.parts i
    ends_full i old here e =
        let l = lives rack dates b i old in
        let model = of_use i l.used in
        let bounds = model_bounds ok i model in
        let fine = fine_of ok i model in
        elim (cases_Bool (is_divided (rack.pieces i))) [
          | inl d ↦
              let span : rack.period i ≡ (present_of rack b i - date_of rack dates b i) + Long = omega (arith, e, l.begun, now_then i here) in
              weights (rack.weight i) _ _ _ _ _ (sound.shares i d old) (gives_share i d old here) span ∙ fine.exact
          | inr whole ↦
              let w = whole_at (rack.pieces i) whole in
              let k : i - 1 + 1 ≡ i = omega arith in
              let all : left rack dates b i ≤ gives i = subst (λ j. left rack dates b j ≤ gives j) k (gives_all (worker_of (rack.pieces i)) fine.from (omega (arith, fine.to, whole_last (rack.pieces i) whole)) here (i - 1) (omega arith) (subst (λ j. IsTrue (whole_on (worker_of (rack.pieces i)) (rack.pieces j))) (sym k) w) (subst (λ j. IsTrue (is_live rack dates b j)) (sym k) old) (ap (deadline_of rack dates b) k ∙ e)) in
              omega (arith, all, gives_at_most i w old here, sound.bounded i w old)
        ]

    -- runs that came to their deadlines have their parts, also those that came to them just now
    full_then : (i d : ℕ) → IsTrue (in_use rack (entered b s) i) → IsTrue (dates i d) → d + rack.period i ≤ present_of rack (entered b s) i → got rack.grain (entered b s).sheets i (d * rack.grain) ((d + rack.period i) * rack.grain) ≡ rack.parts i
    full_then i d used date over =
        let before : IsTrue (in_use rack b i) = used in
        let model = of_use i before in
        elim (cases_eq (group_with rack i) g) [
          | inr other ↦ got_elsewhere ok dates precedes b g s next i _ _ (positive i model) other ∙ sound.full i d before date (omega (arith, over, present_elsewhere ok dates precedes b g s next i other))
          | inl here ↦
              let now : present_of rack b i ≡ s.start = ap b.present here ∙ sym next.start' in
              let then = present_here ok dates precedes b g s next i here in
              elim (cases_lt (present_of rack b i) (d + rack.period i)) [
                | inr long_ago ↦ got_before ok dates precedes b g s next i _ _ (mul-le-mul_right rack.grain (omega (arith, now, long_ago))) ∙ sound.full i d before date long_ago
                | inl ahead' ↦ elim (cases_lt (present_of rack b i) d) [
                  | inl later ↦ absurd (no_date_within ok apart precedes b g s next i before here d (omega (arith, now)) (omega (arith, then, over, (fine_of ok i model).some_period)) date)
                  | inr begun ↦
                      let run = live_from apart b i d before date begun ahead' in
                      let e : deadline_of rack dates b i ≡ s.end = omega (arith, run.1, over, then, not_sooner ok apart precedes b g s next i before here run.0) in
                      let line : d + rack.period i ≡ s.end = omega (arith, run.1, e) in
                      let through = got_through ok dates precedes b g s next i (d * rack.grain) (positive i model) here (mul-le-mul_right rack.grain (omega (arith, now, begun))) (λ y. sound.past i y (positive i model)) in
                      ap (λ z. got rack.grain (entered b s).sheets i (d * rack.grain) (z * rack.grain)) line ∙ through
                      ∙ ap (λ z. got rack.grain b.sheets i (z * rack.grain) (present_of rack b i * rack.grain) + gives i) (sym run.1)
                      ∙ ends_full i run.0 here e
                ]
              ]
        ]

    pub sound_entered : Sound rack dates (entered b s)
    sound_entered = record {
      alone = λ i x some. entered_alone ok dates precedes b g s next i x some (sound.alone i x some) (sound.past i x some);
      past = λ i x some l. entered_past ok dates precedes b g s next i x some (λ y. sound.past i y some) l;
      shares = shares_then;
      bounded = bounded_then;
      claims = claims_then;
      full = full_then;
    }
