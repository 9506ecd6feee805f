-- What holds of every book that calls lead to.
use Rattle.std.proofs.Common.{◌≡◌, ℕ, ◌+◌, ◌-◌, ◌*◌, ◌≤◌, Bool, true, false, cond, not, ◌&&◌, List, [], inl, inr, refl, ap, sym, ◌∙◌, arith}
use Rattle.std.specs.Bool.{IsTrue, IsFalse, ◌==◌}
use Rattle.std.proofs.lemmas.Bool.{cases_Bool, cases_eq, both_ways, and_parts, and_from, and_right, cond-true, cond-false, eq-eqb, ne_eqb}
use Rattle.plan.specs.Shares.{worker_of, first_of}
use Rattle.book.specs.Sums.{total, up_to}
use Rattle.book.specs.Racks.{Rack, is_divided, whole_on, first_on, second_on}
use Rattle.book.specs.Sheets.{Sheet, workers_with, got}
use Rattle.book.specs.Books.{Book, blank, without, is_model_of, present_of, in_use, date_of, deadline_of, is_live, served, left}
use Rattle.book.proofs.Sums.{total_add, between_none}
use Rattle.book.proofs.Racks.{IsRack}
use Rattle.book.proofs.Claims.{State, gone, waiting, live, claim, Covered, start_within, within_from, begun}
use Rattle.book.proofs.Holders.{fine_of, room}
use Rattle.book.proofs.Lives.{KeepsApart, used_model}
use Rattle.book.proofs.Pieces.{whole_size, whole_second}

module _ (rack : Rack) (dates : ℕ → ℕ → Bool) where
  -- the parts of a tick that worker p has for its undivided models
  abbrev pub supply : ℕ → ℕ
  supply p = rack.grain - up_to rack.models (λ i. first_on p (rack.pieces i) + second_on p (rack.pieces i))

  -- what its k-th model has of them
  abbrev pub weight_on : ℕ → ℕ → ℕ
  weight_on p k = whole_size p (rack.pieces (k + 1))

  -- what model i of worker p is at
  abbrev pub phase_at : Book → ℕ → ℕ → State
  phase_at b p i = cond (in_use rack b i && whole_on p (rack.pieces i)) (cond (is_live rack dates b i) (live (deadline_of rack dates b i) (left rack dates b i)) waiting) gone

  pub record Sound (b : Book) : Type 0 where
    -- at no part of time is a model on two workers
    pub alone : (i x : ℕ) → 1 ≤ i → workers_with rack.grain b.sheets i x ≤ 1
    -- nothing is given yet from the present on
    pub past : (i x : ℕ) → 1 ≤ i → present_of rack b i * rack.grain ≤ x → workers_with rack.grain b.sheets i x ≡ 0
    -- a divided run has its even share so far
    pub shares : (i : ℕ) → IsTrue (is_divided (rack.pieces i)) → IsTrue (is_live rack dates b i) → served rack dates b i ≡ rack.weight i * (present_of rack b i - date_of rack dates b i)
    -- an undivided one has at most what it needs
    pub bounded : (i : ℕ) → IsTrue (whole_on (worker_of (rack.pieces i)) (rack.pieces i)) → IsTrue (is_live rack dates b i) → served rack dates b i ≤ rack.parts i
    -- and its worker can give all that may yet be claimed by any tick
    pub claims : (p : ℕ) → 1 ≤ p → p ≤ rack.workers → Covered rack.models (supply p) (weight_on p) (λ k. phase_at b p (k + 1)) (b.present (rack.group p))
    -- runs that came to their deadlines have their parts
    pub full : (i d : ℕ) → IsTrue (in_use rack b i) → IsTrue (dates i d) → d + rack.period i ≤ present_of rack b i → got rack.grain b.sheets i (d * rack.grain) ((d + rack.period i) * rack.grain) ≡ rack.parts i

module _ {rack : Rack} (ok : IsRack rack) {dates : ℕ → ℕ → Bool} (apart : KeepsApart rack dates) where
  -- an undivided model has all of its weight on its worker
  whole_weight : (p i : ℕ) → IsTrue (is_model_of rack i) → IsTrue (whole_on p (rack.pieces i)) → whole_size p (rack.pieces i) ≡ rack.weight i
  whole_weight p i m w = omega (arith, cond-true _ (first_of (rack.pieces i)) 0 w, (fine_of ok i m).sizes, whole_second p (rack.pieces i) w)

  -- the undivided models of a worker weigh at most what it has for them
  pub fits : (p : ℕ) → 1 ≤ p → p ≤ rack.workers → total rack.models (weight_on rack dates p) ≤ supply rack dates p
  fits p some last =
      let n = rack.models in
      omega (arith, room ok dates blank (λ _ _. false) 0 p some last, total_add n (λ k. first_on p (rack.pieces (k + 1))) (λ k. second_on p (rack.pieces (k + 1))))

  pub got_empty : (sheets : List Sheet) (i u v : ℕ) → u ≡ v → got rack.grain sheets i u v ≡ 0
  got_empty sheets i u v same = between_none u v (workers_with rack.grain sheets i) (λ x l m. absurd (omega arith))

  -- a model whose run begins at t, or that has none, claims no more than one that waits
  pub new_claim : (c : Book) (p i t k : ℕ) → (IsTrue (is_live rack dates c i) → (date_of rack dates c i ≡ t) × (served rack dates c i ≡ 0)) → claim (whole_size p (rack.pieces i)) (phase_at rack dates c p i) (t + k) k ≤ whole_size p (rack.pieces i) * k
  new_claim c p i t k new = elim (cases_Bool (in_use rack c i && whole_on p (rack.pieces i))) [
    | inr out ↦ rw out (omega arith)
    | inl on ↦ rw on (elim (cases_Bool (is_live rack dates c i)) [
      | inr dead ↦ rw dead (omega arith)
      | inl alive ↦
          let both = and_parts _ _ on in
          let model = used_model rack c i both.0 in
          let w = whole_size p (rack.pieces i) in
          let n = new alive in
          let whole : left rack dates c i ≡ w * rack.period i = omega (arith, n.1, (fine_of ok i model).exact, ap (λ x. x * rack.period i) (whole_weight p i model both.1)) in
          rw (alive, whole, n.0) (begun w (rack.period i) t k)
    ])
  ]

  pub sound_blank : Sound rack dates blank
  sound_blank = record {
    alone = λ i x some. omega arith;
    past = λ i x some l. refl;
    shares = λ i d l. omega (arith, got_empty [] i (0 * rack.grain) (0 * rack.grain) refl);
    bounded = λ i w l. omega (arith, got_empty [] i (0 * rack.grain) (0 * rack.grain) refl);
    claims = λ p some last k. start_within rack.models (supply rack dates p) (weight_on rack dates p) _ (0 + k) k (fits p some last) (λ j l. new_claim blank p (j + 1) 0 k (λ alive. (refl, got_empty [] (j + 1) _ _ refl)));
    full = λ i d used date l. absurd (omega (arith, (fine_of ok i (used_model rack blank i used)).some_period));
  }

  no_claim : (c : Book) (p i w d k : ℕ) → in_use rack c i ≡ false → claim w (phase_at rack dates c p i) d k ≡ 0
  no_claim c p i w d k out = rw out refl

  pub phase_live : (c : Book) (p i : ℕ) → (in_use rack c i && whole_on p (rack.pieces i)) ≡ true → IsTrue (is_live rack dates c i) → phase_at rack dates c p i ≡ live (deadline_of rack dates c i) (left rack dates c i)
  phase_live c p i on alive = rw (on, alive) refl

  pub phase_waiting : (c : Book) (p i : ℕ) → (in_use rack c i && whole_on p (rack.pieces i)) ≡ true → IsFalse (is_live rack dates c i) → phase_at rack dates c p i ≡ waiting
  phase_waiting c p i on dead = rw (on, dead) refl

  -- a withdrawn model more
  module _ (b : Book) (m : ℕ) (sound : Sound rack dates b) where
    used_before : (i : ℕ) → IsTrue (in_use rack (without b m) i) → IsTrue (in_use rack b i)
    used_before i used =
        let both = and_parts _ _ used in
        and_from _ _ both.0 (elim (cases_eq i m) [
          | inl same ↦ absurd (both_ways _ (ap not (cond-true (i == m) true (b.withdrawn i) (eq-eqb i m same))) both.1)
          | inr other ↦ ap not (sym (cond-false (i == m) true (b.withdrawn i) (ne_eqb i m other))) ∙ both.1
        ])

    live_before : (i : ℕ) → IsTrue (is_live rack dates (without b m) i) → IsTrue (is_live rack dates b i)
    live_before i alive = let both = and_parts _ _ alive in and_from _ _ (used_before i both.0) both.1

    -- it claims nothing any more, and the others what they did
    less_claim : (p i k : ℕ) → claim (whole_size p (rack.pieces i)) (phase_at rack dates (without b m) p i) (b.present (rack.group p) + k) k ≤ claim (whole_size p (rack.pieces i)) (phase_at rack dates b p i) (b.present (rack.group p) + k) k
    less_claim p i k = elim (cases_eq i m) [
      | inl same ↦ omega (arith, no_claim (without b m) p i (whole_size p (rack.pieces i)) (b.present (rack.group p) + k) k (and_right _ _ (ap not (cond-true (i == m) true (b.withdrawn i) (eq-eqb i m same)))))
      | inr other ↦ rw (cond-false (i == m) true (b.withdrawn i) (ne_eqb i m other)) (omega arith)
    ]

    pub sound_without : Sound rack dates (without b m)
    sound_without = record {
      alone = sound.alone;
      past = sound.past;
      shares = λ i d alive. sound.shares i d (live_before i alive);
      bounded = λ i w alive. sound.bounded i w (live_before i alive);
      claims = λ p some last. within_from rack.models (supply rack dates p) (b.present (rack.group p)) (weight_on rack dates p) (λ k. phase_at rack dates b p (k + 1)) (λ k. phase_at rack dates (without b m) p (k + 1)) (λ j k l. less_claim p (j + 1) k) (sound.claims p some last);
      full = λ i d used. sound.full i d (used_before i used);
    }
