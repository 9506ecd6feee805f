-- Of two things, at most one precedes the other.
use Rattle.std.proofs.Common.{◌≡◌, ℕ, Bool, true, false, sym, refl, ◌∙◌}
use Rattle.std.specs.Cmp.{IsStrictWeakOrder}
use Rattle.order.specs.Laws.{OrderLaws}

module _ {X : Type 0} {model moment : X → ℕ} {precedes : X → X → Bool} (laws : OrderLaws model moment precedes) where
  one_way : (a b : X) → precedes a b ≡ true → (back : Bool) → precedes b a ≡ back → back ≡ false
  one_way a b h true e = sym (laws.carries a b a h e) ∙ laws.never_itself a
  one_way a b h false e = refl

  pub ranked : IsStrictWeakOrder precedes
  ranked = record { one_way = λ a b h. one_way a b h (precedes b a) refl; chain = laws.absence_carries }
