-- Every order by keys keeps the laws.
use Rattle.std.proofs.Common.{◌≡◌, ℕ, ◌<◌, true, not, List, [], ◌∷◌, get_or, refl, ap, Ordering, Less, Equal, Greater, arith}
use Rattle.std.specs.FinMap.{slice_cmp-IsAntisymmetric, nat_cmp-IsAntisymmetric}
use Rattle.std.specs.Ordering.{is_lt, ordering_reverse}
use Rattle.std.proofs.lemmas.Bool.Decides.{nat_tests}
use Rattle.std.proofs.lemmas.Cmp.{nat_list_cmp_total, tied_itself}
use Rattle.std.proofs.lemmas.List.Sorted.{ranks_by}
use Rattle.order.specs.Laws.{NeverItself, Carries, AbsenceCarries, OneOfTwo, EarlierFirst, OrderLaws}
use Rattle.order.specs.Keys.{is_lower, by_keys}

list_never : NeverItself is_lower
list_never xs = ap is_lt (tied_itself nat_list_cmp_total xs)

less : (o : Ordering) → is_lt o ≡ true → o ≡ Less
less Less h = refl
less Equal h = absurd cc
less Greater h = absurd cc

list_carries : Carries is_lower
list_carries xs ys zs p q = ap is_lt (nat_list_cmp_total.trans xs ys zs (less _ p) (less _ q))

list_absent : AbsenceCarries is_lower
list_absent = (ranks_by nat_list_cmp_total (λ (xs : List ℕ). xs)).chain

differ : (o back : Ordering) → o ≡ ordering_reverse back → (o ≡ Equal → ⊥) → is_lt o ≡ not (is_lt back)
differ o Less e ne = ap is_lt e
differ o Equal e ne = absurd (ne e)
differ o Greater e ne = ap is_lt e

list_differs : (xs ys : List ℕ) → (xs ≡ ys → ⊥) → is_lower xs ys ≡ not (is_lower ys xs)
list_differs xs ys h = differ _ _ (nat_list_cmp_total.antisymm xs ys) (λ e. h (slice_cmp-IsAntisymmetric nat_cmp-IsAntisymmetric xs ys e))

list_earlier : (xs ys : List ℕ) → get_or xs 0 0 < get_or ys 0 0 → is_lower xs ys ≡ true
list_earlier [] [] h = absurd (omega arith)
list_earlier [] (y ∷ ys) h = refl
list_earlier (x ∷ xs) [] h = absurd (omega arith)
list_earlier (x ∷ xs) (y ∷ ys) h = grind (arith, nat_tests)

module _ {X : Type 0} (keys : X → List ℕ) where
  pub by_keys-NeverItself : NeverItself (by_keys keys)
  by_keys-NeverItself a = list_never (keys a)

  pub by_keys-Carries : Carries (by_keys keys)
  by_keys-Carries a b c = list_carries (keys a) (keys b) (keys c)

  pub by_keys-AbsenceCarries : AbsenceCarries (by_keys keys)
  by_keys-AbsenceCarries a b c = list_absent (keys a) (keys b) (keys c)

  -- where the key at place i is the model's number
  pub by_keys-OneOfTwo : (i : ℕ) → OneOfTwo (λ a. get_or (keys a) i 0) (by_keys keys)
  by_keys-OneOfTwo i a b h = list_differs (keys a) (keys b) (λ e. h (ap (λ (ks : List ℕ). get_or ks i 0) e))

  -- where the first key is the moment
  pub by_keys-EarlierFirst : EarlierFirst (λ a. get_or (keys a) 0 0) (by_keys keys)
  by_keys-EarlierFirst a b = list_earlier (keys a) (keys b)

  -- where both are so
  pub by_keys-OrderLaws : (i : ℕ) → OrderLaws (λ a. get_or (keys a) i 0) (λ a. get_or (keys a) 0 0) (by_keys keys)
  by_keys-OrderLaws i = record {
    never_itself = by_keys-NeverItself;
    carries = by_keys-Carries;
    absence_carries = by_keys-AbsenceCarries;
    one_of_two = by_keys-OneOfTwo i;
    earlier_first = by_keys-EarlierFirst;
  }
