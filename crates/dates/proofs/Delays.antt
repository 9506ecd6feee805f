-- Later dates keep the laws.
use Rattle.std.proofs.Common.{ℕ, Bool, ◌-◌, ◌≤◌, arith}
use Rattle.std.proofs.lemmas.Bool.{and_parts, ltb-true, leb-true}
use Rattle.dates.specs.Dates.{CalendarLaws}
use Rattle.dates.specs.Delays.{delayed}

pub delayed-CalendarLaws : (ticks : ℕ) {dates : ℕ → ℕ → Bool} {spacings : ℕ → ℕ} → CalendarLaws dates spacings → CalendarLaws (delayed ticks dates) spacings
delayed-CalendarLaws ticks laws = record {
  apart = λ m a b lt x y.
      let low : ticks ≤ a = leb-true _ _ (and_parts _ _ (and_parts _ _ x).0).0 in
      omega (arith, laws.apart m (a - ticks) (b - ticks) (omega arith) (and_parts _ _ x).1 (and_parts _ _ y).1);
  early = λ m t x. ltb-true _ _ (and_parts _ _ (and_parts _ _ x).0).1;
  known = λ m t x. laws.known m (t - ticks) (and_parts _ _ x).1;
  unknown = laws.unknown;
  small = laws.small;
}
