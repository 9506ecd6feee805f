-- What the sheets give when one more is entered.
use Rattle.std.proofs.Common.{◌≡◌, ℕ, ◌+◌, ◌-◌, ◌*◌, ◌<◌, ◌≤◌, Bool, List, [], ◌∷◌, ◌++◌, inl, inr, ap, sym, ◌∙◌, add-mul, arith}
use Rattle.std.specs.Bool.{IsTrue}
use Rattle.std.proofs.lemmas.Bool.{cases_Bool, cases_lt, cases_eq, eq-eqb, ne_eqb, cond-true, cond-false, le-leb, lt-leb, lt-ltb, le-ltb, and_from, and_left, and_right}
use Rattle.kinds.specs.declared.runs.Run.{Run}
use Rattle.book.specs.Sums.{total, between}
use Rattle.book.specs.Racks.{Rack}
use Rattle.book.specs.Sheets.{Sheet, rows_with, sheet_with, workers_with, got}
use Rattle.book.specs.Books.{Book, entered, group_with, present_of, is_live}
use Rattle.book.specs.Turns.{IsNext}
use Rattle.book.proofs.Sums.{between_split, between_add, between_same, between_none, total_same}
use Rattle.book.proofs.Racks.{IsRack}
use Rattle.book.proofs.Given.{rows_with_one, rows_with_none, rows_with_dead}

-- one sheet more
pub workers_with_more : (grain : ℕ) (sheets : List Sheet) (s : Sheet) (i x : ℕ) → workers_with grain (sheets ++ s ∷ []) i x ≡ workers_with grain sheets i x + sheet_with grain s i x
workers_with_more grain [] s i x = omega arith
workers_with_more grain (t ∷ sheets) s i x = omega (arith, workers_with_more grain sheets s i x)

module _ (grain : ℕ) (s : Sheet) (i : ℕ) where
  sheet_in : (x : ℕ) → s.start * grain ≤ x → x < s.end * grain → sheet_with grain s i x ≡ rows_with s.rows i (x - s.start * grain)
  sheet_in x low high = cond-true _ _ _ (and_from _ _ (le-leb _ _ low) (lt-ltb _ _ high))

  sheet_before : (x : ℕ) → x < s.start * grain → sheet_with grain s i x ≡ 0
  sheet_before x l = cond-false _ _ _ (and_left _ _ (lt-leb _ _ l))

  sheet_behind : (x : ℕ) → s.end * grain ≤ x → sheet_with grain s i x ≡ 0
  sheet_behind x l = cond-false _ _ _ (and_right _ _ (le-ltb _ _ l))

module _ {rack : Rack} (ok : IsRack rack) (dates : ℕ → ℕ → Bool) (precedes : Run → Run → Bool) (b : Book) (g : ℕ) (s : Sheet) (next : IsNext rack dates precedes b g s) where
  -- how long the interval is
  abbrev pub D : ℕ
  D = s.end - s.start

  pub rises : s.start < s.end
  rises = omega (arith, next.moment.later, next.start')

  -- its parts
  lasts : s.start * rack.grain + rack.grain * D ≡ s.end * rack.grain
  lasts =
      let both : s.start + D ≡ s.end = omega (arith, rises) in
      omega (arith, add-mul s.start D rack.grain, ap (λ n. n * rack.grain) both)

  pub present_here : (i : ℕ) → group_with rack i ≡ g → present_of rack (entered b s) i ≡ s.end
  present_here i here = cond-true _ _ _ (eq-eqb _ _ (here ∙ sym next.group'))

  pub present_elsewhere : (i : ℕ) → (group_with rack i ≡ g → ⊥) → present_of rack (entered b s) i ≡ present_of rack b i
  present_elsewhere i other = cond-false _ _ _ (ne_eqb _ _ (λ e. other (e ∙ next.group')))

  -- what the sheet gives to model i
  abbrev pub sheet_gives : ℕ → ℕ
  sheet_gives i = total (rack.grain * D) (rows_with s.rows i)

  -- the sheet does not name models of other groups
  sheet_elsewhere : (i x : ℕ) → 1 ≤ i → (group_with rack i ≡ g → ⊥) → sheet_with rack.grain s i x ≡ 0
  sheet_elsewhere i x some other = elim (cases_lt x (s.start * rack.grain)) [
    | inl early ↦ sheet_before rack.grain s i x early
    | inr low ↦ elim (cases_lt x (s.end * rack.grain)) [
      | inl high ↦ sheet_in rack.grain s i x low high ∙ rows_with_none ok dates precedes b D s.rows s.first next.rows' g next.last next.workers next.all i (x - s.start * rack.grain) some (omega (arith, lasts)) other
      | inr late ↦ sheet_behind rack.grain s i x late
    ]
  ]

  -- the sheet names model i at part x: that is in the interval, and the model is a live one of the group
  pub record Named (i x : ℕ) : Type 0 where
    pub low : s.start * rack.grain ≤ x
    pub high : x < s.end * rack.grain
    pub here : group_with rack i ≡ g
    pub alive : IsTrue (is_live rack dates b i)

  pub sheet_named : (i x : ℕ) → 1 ≤ i → 1 ≤ sheet_with rack.grain s i x → Named i x
  sheet_named i x some named = elim (cases_lt x (s.start * rack.grain)) [
    | inl early ↦ absurd (omega (arith, sheet_before rack.grain s i x early))
    | inr low ↦ elim (cases_lt x (s.end * rack.grain)) [
      | inr late ↦ absurd (omega (arith, sheet_behind rack.grain s i x late))
      | inl high ↦
          let here : group_with rack i ≡ g = elim (cases_eq (group_with rack i) g) [
            | inl is ↦ is
            | inr other ↦ absurd (omega (arith, sheet_elsewhere i x some other))
          ] in
          let alive : IsTrue (is_live rack dates b i) = elim (cases_Bool (is_live rack dates b i)) [
            | inl is ↦ is
            | inr dead ↦ absurd (omega (arith, sheet_in rack.grain s i x low high, rows_with_dead ok dates precedes b D s.rows s.first next.rows' i (x - s.start * rack.grain) some (omega (arith, lasts)) dead))
          ] in
          record { low = low; high = high; here = here; alive = alive }
    ]
  ]

  -- a sheet has a model on one worker at most
  sheet_one : (i x : ℕ) → 1 ≤ i → sheet_with rack.grain s i x ≤ 1
  sheet_one i x some = elim (cases_lt x (s.start * rack.grain)) [
    | inl early ↦ omega (arith, sheet_before rack.grain s i x early)
    | inr low ↦ elim (cases_lt x (s.end * rack.grain)) [
      | inl high ↦ omega (arith, sheet_in rack.grain s i x low high, rows_with_one ok dates precedes b D s.rows s.first next.rows' i (x - s.start * rack.grain) some (omega (arith, lasts)))
      | inr late ↦ omega (arith, sheet_behind rack.grain s i x late)
    ]
  ]

  abbrev With : ℕ → ℕ → ℕ
  With i x = workers_with rack.grain (entered b s).sheets i x

  -- at no part is a model on two workers, if it was not before, and had no parts from its present on
  pub entered_alone : (i x : ℕ) → 1 ≤ i → workers_with rack.grain b.sheets i x ≤ 1 → (present_of rack b i * rack.grain ≤ x → workers_with rack.grain b.sheets i x ≡ 0) → With i x ≤ 1
  entered_alone i x some one past = elim (cases_eq (group_with rack i) g) [
    | inl here ↦ elim (cases_lt x (s.start * rack.grain)) [
      | inl early ↦ omega (arith, workers_with_more rack.grain b.sheets s i x, sheet_before rack.grain s i x early)
      | inr low ↦
          let now : present_of rack b i ≡ s.start = ap b.present here ∙ sym next.start' in
          omega (arith, workers_with_more rack.grain b.sheets s i x, sheet_one i x some, past (rw now low))
    ]
    | inr other ↦ omega (arith, workers_with_more rack.grain b.sheets s i x, sheet_elsewhere i x some other)
  ]

  pub entered_past : (i x : ℕ) → 1 ≤ i → ((y : ℕ) → present_of rack b i * rack.grain ≤ y → workers_with rack.grain b.sheets i y ≡ 0) → present_of rack (entered b s) i * rack.grain ≤ x → With i x ≡ 0
  entered_past i x some past l = elim (cases_eq (group_with rack i) g) [
    | inl here ↦
        let now : present_of rack b i ≡ s.start = ap b.present here ∙ sym next.start' in
        let late : s.end * rack.grain ≤ x = rw (present_here i here) at l in
        omega (arith, workers_with_more rack.grain b.sheets s i x, sheet_behind rack.grain s i x late, past x (rw now (omega (arith, lasts))))
    | inr other ↦ omega (arith, workers_with_more rack.grain b.sheets s i x, sheet_elsewhere i x some other, past x (rw (present_elsewhere i other) at l))
  ]

  abbrev Got : ℕ → ℕ → ℕ → ℕ
  Got i u v = got rack.grain (entered b s).sheets i u v

  got_more : (i u v : ℕ) → Got i u v ≡ got rack.grain b.sheets i u v + between u v (sheet_with rack.grain s i)
  got_more i u v = between_same u v (With i) (λ x. workers_with rack.grain b.sheets i x + sheet_with rack.grain s i x) (λ x l m. workers_with_more rack.grain b.sheets s i x)
      ∙ between_add u v (workers_with rack.grain b.sheets i) (sheet_with rack.grain s i)

  pub got_elsewhere : (i u v : ℕ) → 1 ≤ i → (group_with rack i ≡ g → ⊥) → Got i u v ≡ got rack.grain b.sheets i u v
  got_elsewhere i u v some other = omega (arith, got_more i u v, between_none u v (sheet_with rack.grain s i) (λ x l m. sheet_elsewhere i x some other))

  -- the sheet gives nothing before it starts
  pub got_before : (i u v : ℕ) → v ≤ s.start * rack.grain → Got i u v ≡ got rack.grain b.sheets i u v
  got_before i u v l = omega (arith, got_more i u v, between_none u v (sheet_with rack.grain s i) (λ x l' m. sheet_before rack.grain s i x (omega arith)))

  sheet_all : (i : ℕ) → between (s.start * rack.grain) (s.end * rack.grain) (sheet_with rack.grain s i) ≡ sheet_gives i
  sheet_all i =
      let long : s.end * rack.grain - s.start * rack.grain ≡ rack.grain * D = omega (arith, lasts) in
      ap (λ n. total n (λ k. sheet_with rack.grain s i (s.start * rack.grain + k))) long
      ∙ total_same (rack.grain * D) _ _ (λ k l. sheet_in rack.grain s i (s.start * rack.grain + k) (omega arith) (omega (arith, lasts)) ∙ ap (rows_with s.rows i) (omega arith))

  -- from a part before the interval up to its end
  pub got_through : (i u : ℕ) → 1 ≤ i → group_with rack i ≡ g → u ≤ s.start * rack.grain → ((y : ℕ) → present_of rack b i * rack.grain ≤ y → workers_with rack.grain b.sheets i y ≡ 0)
      → Got i u (s.end * rack.grain) ≡ got rack.grain b.sheets i u (present_of rack b i * rack.grain) + sheet_gives i
  got_through i u some here l past =
      let now : present_of rack b i ≡ s.start = ap b.present here ∙ sym next.start' in
      let a = s.start * rack.grain in
      let z = s.end * rack.grain in
      let order : a ≤ z = omega (arith, lasts) in
      let old = between_split u a z (workers_with rack.grain b.sheets i) l order in
      let rest = between_none a z (workers_with rack.grain b.sheets i) (λ x m n. past x (rw now m)) in
      let new = between_split u a z (sheet_with rack.grain s i) l order in
      let none = between_none u a (sheet_with rack.grain s i) (λ x m n. sheet_before rack.grain s i x n) in
      rw now (omega (arith, got_more i u z, old, rest, new, none, sheet_all i))
