-- The groups of workers, by division.
use Rattle.std.proofs.Common.{◌≡◌, ℕ, ◌+◌, ◌-◌, ◌*◌, ◌/◌, ◌%◌, ◌<◌, ◌≤◌, min, leb, ◌⊎◌, inl, inr, refl, ap, ⊎_elim, mul-le-mul_right, mod-lt, add-mul, pos_of_ne-zero, one-mul, div-add-mod', le-div_iff_mul-le, div-mul-le_self, arith}
use Rattle.std.proofs.Math.Nat.{div-eq_of_lt-le, lt-div-mul-add}
use Rattle.std.proofs.lemmas.Bool.{cond-true, cond-false, le-leb, lt-leb, cases_lt}
use Rattle.plan.specs.Groups.{group_of, Group, NoGroup, Counts}

module _ (alone k : ℕ) (some : 1 ≤ k) where
  group_low : (p : ℕ) → p ≤ alone → group_of alone k p ≡ p
  group_low p h = cond-true (leb p alone) _ _ (le-leb p alone h)

  group_high : (p : ℕ) → alone < p → group_of alone k p ≡ alone + 1 + (p - alone - 1) / k
  group_high p h = cond-false (leb p alone) _ _ (lt-leb p alone h)

  quotient : (x j : ℕ) → j * k ≤ x → x < j * k + k → x / k ≡ j
  quotient x j low high = div-eq_of_lt-le k low (omega (arith, add-mul j 1 k, one-mul k))

  remainder : (x j : ℕ) → x / k ≡ j → (j * k ≤ x) × (x < j * k + k)
  remainder x j e = rw (← e) (div-mul-le_self x k, lt-div-mul-add some)

  quotient_rises : (x y : ℕ) → x ≤ y → x / k ≤ y / k
  quotient_rises x y h = (le-div_iff_mul-le some).1 (omega (arith, div-mul-le_self x k))

  group_some : (p : ℕ) → 1 ≤ p → 1 ≤ group_of alone k p
  group_some p h = ⊎_elim (λ (lt : alone < p). omega (arith, group_high p lt)) (λ (le : p ≤ alone). omega (arith, group_low p le)) (cases_lt alone p)

  pub group_rises : (p q : ℕ) → p ≤ q → group_of alone k p ≤ group_of alone k q
  group_rises p q h =
      ⊎_elim
      (λ (lt : alone < p). omega (arith, group_high p lt, group_high q (omega arith), quotient_rises (p - alone - 1) (q - alone - 1) (omega arith)))
      (λ (le : p ≤ alone). ⊎_elim (λ (lt : alone < q). omega (arith, group_low p le, group_high q lt)) (λ (low : q ≤ alone). omega (arith, group_low p le, group_low q low)) (cases_lt alone q))
      (cases_lt alone p)

  low_within : (m g : ℕ) → g ≤ alone → g ≤ group_of alone k m → g ≤ m
  low_within m g low top =
      ⊎_elim (λ (lt : alone < m). omega arith) (λ (le : m ≤ alone). omega (arith, group_low m le)) (cases_lt alone m)

  -- the groups are numbered from 1 up to that of the last worker
  pub no_group : (m g : ℕ) → (g < 1) ⊎ (group_of alone k m < g) → NoGroup (group_of alone k) m g
  no_group m g out p some-p in-m e = ⊎_elim (λ (low : g < 1). omega (arith, group_some p some-p)) (λ (high : group_of alone k m < g). omega (arith, group_rises p m in-m)) out

  -- behind the groups of one, group g begins with this worker
  abbrev first_of : ℕ → ℕ
  first_of g = alone + 1 + (g - alone - 1) * k

  first_within : (m g : ℕ) → alone < g → g ≤ group_of alone k m → first_of g ≤ m
  first_within m g high top =
      ⊎_elim
      (λ (lt : alone < m).
      let le : g - alone - 1 ≤ (m - alone - 1) / k = omega (arith, group_high m lt) in
      omega (arith, mul-le-mul_right k le, div-mul-le_self (m - alone - 1) k))
      (λ (le : m ≤ alone). absurd (omega (arith, group_low m le)))
      (cases_lt alone m)

  group_inside : (g p : ℕ) → alone < g → first_of g ≤ p → p < first_of g + k → group_of alone k p ≡ g
  group_inside g p high low top =
      omega (arith, group_high p (omega arith), quotient (p - alone - 1) (g - alone - 1) (omega arith) (omega arith))

  group_only : (g p : ℕ) → alone < g → group_of alone k p ≡ g → (first_of g ≤ p) × (p < first_of g + k)
  group_only g p high e =
      ⊎_elim
      (λ (lt : alone < p).
      let d : (p - alone - 1) / k ≡ g - alone - 1 = omega (arith, group_high p lt) in
      let r = remainder (p - alone - 1) (g - alone - 1) d in
      (omega (arith, r.0), omega (arith, r.1)))
      (λ (le : p ≤ alone). absurd (omega (arith, group_low p le)))
      (cases_lt alone p)

  pub group_among : (m g last : ℕ) → alone < g → g ≤ group_of alone k m → last ≡ min (first_of g + k - 1) m → Group (group_of alone k) m g (first_of g) last
  group_among m g last high top e =
      let first-in = first_within m g high top in
      record {
        from_one = omega arith;
        some = omega arith;
        within = omega arith;
        inside = λ p h h'. group_inside g p high h (omega arith);
        only = λ p h h' e'. let r = group_only g p high e' in (r.0, omega (arith, r.1));
      }

  group_alone : (m g : ℕ) → 1 ≤ m → 1 ≤ g → g ≤ alone → g ≤ group_of alone k m → Group (group_of alone k) m g g g
  group_alone m g some-m from_one low top = record {
    from_one = from_one;
    some = omega arith;
    within = low_within m g low top;
    inside = λ p h h'. let e : p ≡ g = omega arith in rw e (group_low g low);
    only = λ p h h' e. elim (cases_lt alone p) [
      | inl high ↦ absurd (omega (arith, group_high p high))
      | inr le ↦ let same = group_low p le in (omega arith, omega arith)
    ];
  }

  -- so there is a group of each number from 1 up to that of the last worker
  pub every_group : (m g : ℕ) → 1 ≤ m → 1 ≤ g → g ≤ group_of alone k m → (first : ℕ) × ((last : ℕ) × Group (group_of alone k) m g first last)
  every_group m g some-m from_one top = elim (cases_lt alone g) [
    | inl high ↦ (_, (_, group_among m g _ high top refl))
    | inr low ↦ (g, (g, group_alone m g some-m from_one low top))
  ]

  -- two neighbours are in one group, unless the group ends with the first of them
  pub group_next : (p : ℕ) → alone < p → ((p - alone) % k ≡ 0 → ⊥) → group_of alone k p ≡ group_of alone k (p + 1)
  group_next p high going =
      let j = (p - alone) / k in
      let whole = div-add-mod' (p - alone) k in
      let rest = mod-lt (p - alone) some in
      let some-rest : 0 < (p - alone) % k = pos_of_ne-zero going in
      let here : (p - alone - 1) / k ≡ j = quotient (p - alone - 1) j (omega arith) (omega arith) in
      let there : (p + 1 - alone - 1) / k ≡ j = ap (λ x. x / k) (omega arith) in
      omega (arith, group_high p high, group_high (p + 1) (omega arith))

  -- every group up to the last worker's has a worker
  pub counts : (m count : ℕ) → 1 ≤ m → count ≡ group_of alone k m → Counts (group_of alone k) m count
  counts m count some-m is = record {
    every = λ p from_one in-m. (group_some p from_one, omega (arith, group_rises p m in-m));
    each = λ g from_one top. ⊎_elim
        (λ (high : alone < g). (first_of g, (omega arith, first_within m g high (omega arith), group_inside g (first_of g) high (omega arith) (omega arith))))
        (λ (low : g ≤ alone). (g, (from_one, low_within m g low (omega arith), group_low g low)))
        (cases_lt alone g);
  }

  -- there are as many groups as the number of the last worker's
  pub counts_top : (m count : ℕ) → 1 ≤ m → Counts (group_of alone k) m count → count ≡ group_of alone k m
  counts_top m count some-m c =
      let last = c.every m some-m (omega arith) in
      ⊎_elim
      (λ (high : group_of alone k m < count). let there = c.each count (omega (arith, last)) (omega arith) in absurd (omega (arith, group_rises there.0 m there.1.1, there.1.2)))
      (λ (low : count ≤ group_of alone k m). omega (arith, last))
      (cases_lt (group_of alone k m) count)
