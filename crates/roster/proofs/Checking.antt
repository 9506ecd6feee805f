-- Which groups there are, and what an advance is refused for.
use Rattle.std.proofs.Common.{◌≡◌, ℕ, ◌+◌, ◌-◌, ◌<◌, ◌≤◌, inl, inr, refl, subst, ◌/◌, arith, None, Some}
use Rattle.std.specs.Bool.{IsTrue, IsFalse, nat_le}
use Rattle.std.proofs.Math.Nat.{div-le_self}
use Rattle.std.proofs.lemmas.Bool.{cases_lt, and_from, le-leb, lt-leb, leb-true, false_from_ne_true, cond-true, cond-false}
use Rattle.refusal.proofs.Firsts.{passed}
use Rattle.refusal.specs.declared.Layer.TheVariants.{Running}
use Rattle.plan.specs.declared.plans.Plan.{Plan}
use Rattle.kinds.specs.declared.runs.Run.{Run}
use Rattle.calendar.specs.declared.Calendar.{Ghosts as CalendarMeaning}
use Rattle.order.specs.declared.Order.{Ghosts as OrderMeaning}
use Rattle.order.specs.declared.Thing.{Ghosts as ThingMeaning}
use Rattle.plan.specs.Groups.{group_of, GroupIn, NoGroupIn}
use Rattle.set.specs.Heavy.{heavy_count_of}
use Rattle.roster.proofs.Groups.{worker_group}
use Rattle.book.specs.Racks.{Rack, rack_of}
use Rattle.book.specs.Books.{blank}
use Rattle.book.specs.Calls.{Advance, about, is_group}
use Rattle.book.proofs.Racks.{within_both, rack_of-IsRack}
use Rattle.roster.specs.declared.Roster.{Roster}
use Rattle.roster.specs.declared.group.Group.{Group}
use Rattle.roster.specs.Intervals.{IsGroupOf}

-- there are not more groups than workers
group_le : (alone k p : ℕ) → group_of alone k p ≤ p
group_le alone k p = elim (cases_lt alone p) [
  | inl high ↦ omega (arith, cond-false (nat_le p alone) p (alone + 1 + (p - alone - 1) / k) (lt-leb p alone high), div-le_self (p - alone - 1) k)
  | inr low ↦ omega (arith, cond-true (nat_le p alone) p (alone + 1 + (p - alone - 1) / k) (le-leb p alone low))
]

module _ (plan : Plan) (g : ℕ) where
  abbrev rack : Rack
  rack = rack_of plan

  pub group_some : IsTrue (is_group rack g) → 1 ≤ g
  group_some is = (within_both 1 _ g is).0

  pub group_last : IsTrue (is_group rack g) → g ≤ 32
  group_last is =
      let sizes = plan.set.sizes in
      omega (arith, (within_both 1 _ g is).1, group_le (heavy_count_of plan.set) sizes.group_size sizes.workers, sizes.few_workers)

  pub is_none : NoGroupIn plan.set g → IsFalse (is_group rack g)
  is_none none = false_from_ne_true _ (λ is.
      let w = (rack_of-IsRack plan).groups g is in
      let group = w.1.1 in
      none w.0 group.from_one (omega (arith, group.some, group.within)) (group.inside w.0 (omega arith) group.some))

  pub is_one : (first last : ℕ) → GroupIn plan.set g first last → IsTrue (is_group rack g)
  is_one first last group = subst (λ h. IsTrue (is_group rack h)) (group.inside first (omega arith) group.some) (worker_group plan first group.from_one (omega (arith, group.some, group.within)))

  module _ (words things : ℕ) where
    pub no_group : IsFalse (is_group rack g) → about rack blank (Advance g words things) ≡ Some (record { number = 9; layer = Running; place = g })
    no_group none = rw none refl

    pub few_words : IsTrue (is_group rack g) → words < 512 → about rack blank (Advance g words things) ≡ Some (record { number = 10; layer = Running; place = 1 })
    few_words is few = rw (is, lt-leb _ _ few) refl

    pub few_things : IsTrue (is_group rack g) → 512 ≤ words → things < 64 → about rack blank (Advance g words things) ≡ Some (record { number = 10; layer = Running; place = 2 })
    few_things is room few = rw (is, le-leb _ _ room, lt-leb _ _ few) refl

    pub all_fine : IsTrue (is_group rack g) → 512 ≤ words → 64 ≤ things → about rack blank (Advance g words things) ≡ None
    all_fine is room more = rw (is, le-leb _ _ room, le-leb _ _ more) refl

-- what is not refused is lent enough
pub lent_enough : (plan : Plan) (g words things : ℕ) → about (rack_of plan) blank (Advance g words things) ≡ None → (512 ≤ words) × (64 ≤ things)
lent_enough plan g words things fine =
    let after = (passed (is_group (rack_of plan) g) _ _ fine).1 in
    let sheet = passed (nat_le 512 words) _ _ after in
    (leb-true 512 words sheet.0, leb-true 64 things (passed (nat_le 64 things) _ _ sheet.1).0)

module _ {C O : Type 0} {calendar : CalendarMeaning C} {order : OrderMeaning O Run} {thing : ThingMeaning Run} (x : Roster C O calendar order thing) (group : Group) (is : IsGroupOf x group) where
  -- the workers of a group of the roster's plan
  pub inside_of : GroupIn x.plan.now.set group.number group.workers.first group.workers.last
  inside_of = subst (λ (p : Plan). GroupIn p.set group.number group.workers.first group.workers.last) is.plan' group.inside

  pub is_group_of : IsTrue (is_group (rack_of x.plan.now) group.number)
  is_group_of = is_one x.plan.now group.number group.workers.first group.workers.last inside_of
