-- There is one earliest date at most.
use Rattle.std.proofs.Common.{◌≡◌, ℕ, ◌≤◌, Bool, inl, inr, arith}
use Rattle.std.proofs.lemmas.Bool.{both_ways, cases_lt}
use Rattle.dates.specs.Dates.{Earliest}

module _ (is_date : ℕ → Bool) (from : ℕ) where
  not_before : (c d : ℕ) → Earliest is_date from c → Earliest is_date from d → c ≤ d
  not_before c d e f = elim (cases_lt d c) [
    | inl before ↦ absurd (both_ways (is_date d) (e.first d f.later before) f.date)
    | inr other ↦ other
  ]

  pub earliest_once : (c d : ℕ) → Earliest is_date from c → Earliest is_date from d → c ≡ d
  earliest_once c d e f = omega (arith, not_before c d e f, not_before d c f e)
