-- Lists of one value.
use Rattle.std.proofs.Common.{◌≡◌, ℕ, get_or, replicate, arith}
use Rattle.std.proofs.lemmas.Grind.{common_steps}

-- the value stands at every place, behind the end too
pub get_or_blank : {X : Type 0} (n i : ℕ) (x : X) → get_or (replicate n x) i x ≡ x
get_or_blank n i x = grind (arith, common_steps)
