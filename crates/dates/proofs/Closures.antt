-- Dates without those of a closed span keep the laws.
use Rattle.std.proofs.Common.{ℕ, Bool}
use Rattle.std.proofs.lemmas.Bool.{and_parts}
use Rattle.dates.specs.Dates.{CalendarLaws}
use Rattle.dates.specs.Closures.{opened}

pub opened-CalendarLaws : (a e : ℕ) {dates : ℕ → ℕ → Bool} {spacings : ℕ → ℕ} → CalendarLaws dates spacings → CalendarLaws (opened a e dates) spacings
opened-CalendarLaws a e laws = record {
  apart = λ m x y lt p q. laws.apart m x y lt (and_parts _ _ p).0 (and_parts _ _ q).0;
  early = λ m t p. laws.early m t (and_parts _ _ p).0;
  known = λ m t p. laws.known m t (and_parts _ _ p).0;
  unknown = laws.unknown;
  small = laws.small;
}
