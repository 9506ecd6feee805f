-- What the limits and the four facts of a plan say of its rack.
use Rattle.std.proofs.Common.{◌≡◌, ℕ, zero, suc, ◌+◌, ◌-◌, ◌*◌, ◌%◌, ◌<◌, ◌≤◌, ◌&&◌, List, inl, inr, refl, ap, arith}
use Rattle.std.proofs.Math.Nat.{mod-eq_of_lt}
use Rattle.std.specs.Bool.{IsTrue, nat_le}
use Rattle.std.proofs.lemmas.Bool.{cases_lt}
use Rattle.std.proofs.lemmas.Bool.Decides.{nat_tests}
use Rattle.set.specs.Sets.{grain_of, period_of}
use Rattle.set.specs.Heavy.{heavy_count_of}
use Rattle.set.proofs.Weights.{weighs}
use Rattle.plan.specs.declared.pieces.Pieces.{Pieces}
use Rattle.plan.specs.declared.plans.Plan.{Plan}
use Rattle.plan.specs.Shares.{worker_of, last_of, first_of, second_of, pieces_at, on_worker, carried}
use Rattle.plan.specs.Groups.{Group}
use Rattle.plan.proofs.Spans.{every_group}
use Rattle.book.specs.Sums.{up_to}
use Rattle.book.specs.Racks.{Rack, rack_of, is_divided}
use Rattle.book.specs.Calls.{is_group}
use Rattle.book.proofs.Pieces.{second_some}

module _ (rack : Rack) where
  -- what a model of the rack keeps to
  pub record IsFine (i : ℕ) : Type 0 where
    pub some_period : 1 ≤ rack.period i
    pub small_period : rack.period i ≤ 100800
    pub exact : rack.weight i * rack.period i ≡ rack.parts i
    pub fits : rack.weight i ≤ rack.grain
    pub sizes : first_of (rack.pieces i) + second_of (rack.pieces i) ≡ rack.weight i
    pub from : 1 ≤ worker_of (rack.pieces i)
    pub to : last_of (rack.pieces i) ≤ rack.workers
    pub together : rack.group (worker_of (rack.pieces i)) ≡ rack.group (last_of (rack.pieces i))

  pub record IsRack : Type 0 where
    pub some_grain : 1 ≤ rack.grain
    pub small_grain : rack.grain ≤ 100800
    pub few_models : rack.models ≤ 64
    pub few_workers : rack.workers ≤ 32
    pub fine : (i : ℕ) → 1 ≤ i → i ≤ rack.models → IsFine i
    -- the pieces of a worker fit its parts
    pub loaded : (p : ℕ) → 1 ≤ p → p ≤ rack.workers → up_to rack.models (λ i. on_worker p (rack.pieces i)) ≤ rack.grain
    -- a worker has one first piece at most
    pub one_first : (i j : ℕ) → 1 ≤ i → i ≤ rack.models → 1 ≤ j → j ≤ rack.models → IsTrue (is_divided (rack.pieces i)) → IsTrue (is_divided (rack.pieces j)) → worker_of (rack.pieces i) ≡ worker_of (rack.pieces j) → i ≡ j
    pub groups : (g : ℕ) → IsTrue (is_group rack g) → (first : ℕ) × ((last : ℕ) × Group rack.group rack.workers g first last)

period_small : (grain period : ℕ) → 1 ≤ grain → grain % period ≡ 0 → period ≤ grain
period_small grain period some whole = elim (cases_lt grain period) [
  | inl less ↦ absurd (omega (arith, mod-eq_of_lt less))
  | inr more ↦ more
]

carried_is : (pieces : List Pieces) (p n : ℕ) → up_to n (λ i. on_worker p (pieces_at pieces (i - 1))) ≡ carried (pieces_at pieces) p n
carried_is pieces p zero = refl
carried_is pieces p (suc n) =
    let same : on_worker p (pieces_at pieces (n + 1 - 1)) ≡ on_worker p (pieces_at pieces n) = ap (λ k. on_worker p (pieces_at pieces k)) (omega arith) in
    omega (arith, carried_is pieces p n, same)

pub within_both : (a z x : ℕ) → IsTrue (nat_le a x && nat_le x z) → (a ≤ x) × (x ≤ z)
within_both a z x h = (grind (arith, nat_tests), grind (arith, nat_tests))

module _ (plan : Plan) where
  model_fine : (i : ℕ) → 1 ≤ i → i ≤ (rack_of plan).models → IsFine (rack_of plan) i
  model_fine i some last =
      let l : i - 1 < (rack_of plan).models = omega arith in
      let timed = plan.set.timed (i - 1) l in
      let w = weighs plan.set (i - 1) l in
      let shared = plan.shared (i - 1) l in
      record {
        some_period = timed.0;
        small_period = omega (arith, period_small (grain_of plan.set) (period_of plan.set (i - 1)) plan.set.sizes.some_grain timed.1, plan.set.sizes.small_grain);
        exact = w.exact;
        fits = w.fits;
        sizes = shared.2;
        from = shared.0;
        to = shared.1;
        together = plan.grouped (i - 1) l;
      }

  pub rack_of-IsRack : IsRack (rack_of plan)
  rack_of-IsRack =
      let sizes = plan.set.sizes in
      record {
        some_grain = sizes.some_grain;
        small_grain = sizes.small_grain;
        few_models = sizes.few_models;
        few_workers = sizes.few_workers;
        fine = model_fine;
        loaded = λ p some last.
            let e : p - 1 + 1 ≡ p = omega arith in
            let l = plan.loaded (p - 1) (omega (arith, sizes.few_workers)) in
            let here = rw e at l.0 in
            omega (arith, carried_is plan.pieces p sizes.models, here, l.1);
        one_first = λ i j some last some' last' di dj same.
            let second = λ (i : ℕ) (some : 1 ≤ i) (last : i ≤ sizes.models) (d : IsTrue (is_divided (pieces_at plan.pieces (i - 1)))). second_some _ d (plan.positive (i - 1) (omega arith)).1 in
            let e : i - 1 ≡ j - 1 = plan.one_first (i - 1) (j - 1) ((omega arith, omega arith, second i some last di, second j some' last' dj), same) in
            omega arith;
        groups = λ g h. let w = within_both 1 _ g h in every_group (heavy_count_of plan.set) sizes.group_size sizes.some_group sizes.workers g sizes.some_workers w.0 w.1;
      }
