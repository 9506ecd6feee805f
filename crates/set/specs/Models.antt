-- What the models of a set keep to.
use Rattle.std.specs.Prelude.{◌≡◌, ℕ, ◌-◌, ◌%◌, ◌<◌, ◌≤◌, List, ◌++◌, length, replicate, slice_index_or}
use Rattle.set.specs.declared.models.Model.{Model}

-- what a slot without a model holds
abbrev pub no_model : Model
no_model = record { cost = 0; period = 0 }

-- the cost and the period in slot i
abbrev pub cost_at : List Model → ℕ → ℕ
cost_at models i = (slice_index_or models i no_model).cost

abbrev pub period_at : List Model → ℕ → ℕ
period_at models i = (slice_index_or models i no_model).period

-- each of the first n periods divides the grain
abbrev pub Timed : ℕ → ℕ → List Model → Type 0
Timed n grain models = (i : ℕ) → i < n → (1 ≤ period_at models i) × (grain % period_at models i ≡ 0)

-- each of the first n costs is from 1 to its period
abbrev pub Costed : ℕ → List Model → Type 0
Costed n models = (i : ℕ) → i < n → (1 ≤ cost_at models i) × (cost_at models i ≤ period_at models i)

-- the slots from n on are 0
abbrev pub Clear : ℕ → List Model → Type 0
Clear n models = (i : ℕ) → n ≤ i → (cost_at models i ≡ 0) × (period_at models i ≡ 0)

-- 64 slots that begin with these numbers and are 0 behind them
abbrev pub slots_of : List ℕ → List ℕ
slots_of numbers = numbers ++ replicate (64 - length numbers) 0
