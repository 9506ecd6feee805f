-- Models that are where the rules place them make a plan.
use Rattle.std.proofs.Common.{◌≡◌, ℕ, suc, ◌+◌, ◌<◌, ◌≤◌, true, List, get_or, None, sym, refl, ap, ◌∙◌, arith}
use Rattle.refusal.specs.Refusals.{first_below}
use Rattle.refusal.proofs.Firsts.{none_upto}
use Rattle.set.specs.declared.sets.Set.{Set}
use Rattle.set.specs.Sets.{models_of, grain_of}
use Rattle.plan.specs.declared.pieces.Pieces.{Pieces}
use Rattle.plan.specs.declared.pieces.Pieces.TheVariants.{Whole, Divided}
use Rattle.plan.specs.Shares.{worker_of, last_of, second_of, pieces_at, carried}
use Rattle.plan.specs.Facts.{Loaded, Shared, Grouped, OneFirst, OneSecond, Positive}
use Rattle.placement.specs.Rules.{placed, room_for_light, about_light}
use Rattle.placement.specs.Placing.{Seated}
use Rattle.placement.proofs.Carries.{carried_same}
use Rattle.placement.proofs.Walks.{walked}
use Rattle.placement.proofs.Keeps.{Well, well, one_first}

last_divided : (x : Pieces) → 0 < second_of x → last_of x ≡ worker_of x + 1
last_divided (Whole worker size) h = absurd (omega arith)
last_divided (Divided worker first second) h = refl

module _ (set : Set) (pieces : List Pieces) (seated : Seated set (models_of set) pieces) (ok : room_for_light set ≡ true) (none : first_below (about_light set) (models_of set) ≡ None) where
  well_at : (i : ℕ) → i < models_of set → Well set i (pieces_at pieces i)
  well_at i h = rw (seated.each i h) (well set i h ok (none_upto (about_light set) (models_of set) (suc i) h none))

  pub within : (i : ℕ) → i < models_of set → (1 ≤ worker_of (pieces_at pieces i)) × (last_of (pieces_at pieces i) ≤ 32)
  within i h = let w = well_at i h in (w.from_one, let few = set.sizes.few_workers in omega (arith, w.within))

  carries : (p : ℕ) → carried (pieces_at pieces) p (models_of set) ≤ grain_of set
  carries p = rw (carried_same (pieces_at pieces) (placed set) p (models_of set) seated.each) ((walked set (models_of set) (omega arith)).most p)

  pub room : (p : ℕ) → carried (pieces_at pieces) p (models_of set) ≤ 100800
  room p = let small = set.sizes.small_grain in omega (arith, carries p)

  pub loaded : (loads : List ℕ) → ((p : ℕ) → p < 32 → get_or loads p 0 ≡ carried (pieces_at pieces) (p + 1) (models_of set)) → Loaded set pieces loads
  loaded loads is p h = (is p h, omega (arith, is p h, carries (p + 1)))

  pub shared : Shared set pieces
  shared i h = let w = well_at i h in (w.from_one, w.within, w.adds)

  pub grouped : Grouped set pieces
  grouped i h = (well_at i h).grouped

  pub one_first_piece : OneFirst set pieces
  one_first_piece i j (both, e) =
      let x = seated.each i both.0 in
      let y = seated.each j both.1 in
      one_first set i j (rw x at both.2) (rw y at both.3) (sym (ap worker_of x) ∙ (e ∙ ap worker_of y))

  pub one_second_piece : OneSecond set pieces
  one_second_piece i j (both, e) =
      one_first_piece i j (both, omega (arith, e, last_divided (pieces_at pieces i) both.2, last_divided (pieces_at pieces j) both.3))

  pub positive : Positive set pieces
  positive i h = let w = well_at i h in (w.some_first, w.some_second)
