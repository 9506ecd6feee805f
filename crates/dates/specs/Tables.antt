-- Tables of 64, with what each model has: that of model 1 comes first.
use Rattle.std.specs.Prelude.{ℕ, ◌-◌, cond, List, slice_index_or}
use Rattle.dates.specs.Dates.{is_model}

-- what the table has for model m, and `other` for a number that is no model's
abbrev pub at_model : {A : Type 0} → A → List A → ℕ → A
at_model other table m = cond (is_model m) (slice_index_or table (m - 1) other) other
