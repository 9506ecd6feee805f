-- The laws of every order. `precedes a b` says whether a comes before b.
use Rattle.std.specs.Prelude.{◌≡◌, ℕ, ◌<◌, Bool, true, false, not, ◌≢◌}

module _ {X : Type 0} where
  -- nothing precedes itself
  abbrev pub NeverItself : (X → X → Bool) → Type 0
  NeverItself precedes = (a : X) → precedes a a ≡ false

  -- precedence carries over from a to b to c
  abbrev pub Carries : (X → X → Bool) → Type 0
  Carries precedes = (a b c : X) → precedes a b ≡ true → precedes b c ≡ true → precedes a c ≡ true

  -- and so does its absence
  abbrev pub AbsenceCarries : (X → X → Bool) → Type 0
  AbsenceCarries precedes = (a b c : X) → precedes a b ≡ false → precedes b c ≡ false → precedes a c ≡ false

  -- of two things of different models exactly one precedes the other
  abbrev pub OneOfTwo : (X → ℕ) → (X → X → Bool) → Type 0
  OneOfTwo model precedes = (a b : X) → (model a ≢ model b) → precedes a b ≡ not (precedes b a)

  -- what has the earlier moment precedes
  abbrev pub EarlierFirst : (X → ℕ) → (X → X → Bool) → Type 0
  EarlierFirst moment precedes = (a b : X) → moment a < moment b → precedes a b ≡ true

-- all of them, of things that have a model and a moment
pub record OrderLaws {X : Type 0} (model moment : X → ℕ) (precedes : X → X → Bool) : Type 0 where
  pub never_itself : NeverItself precedes
  pub carries : Carries precedes
  pub absence_carries : AbsenceCarries precedes
  pub one_of_two : OneOfTwo model precedes
  pub earlier_first : EarlierFirst moment precedes
