-- Sheets: who has each worker of a group, through one interval.
use Rattle.std.specs.Prelude.{◌≡◌, ◌≢◌, ℕ, ◌+◌, ◌-◌, ◌*◌, ◌<◌, ◌≤◌, Bool, if◌then◌else◌, ◌&&◌, List, [], ◌∷◌, ◌++◌, length, map, nat_lt, nat_le, ◌==◌}
use Rattle.std.specs.List.{flat_map}
use Rattle.book.specs.Sums.{between}

-- the worker has this model up to a part, counted from the interval's start; 0 stands for idle
pub record Span : Type 0 where
  pub end : ℕ
  pub model : ℕ

-- the spans of one worker
abbrev pub Row : Type 0
Row = List Span

-- the rows of a group's workers, from the first on, between two ticks
pub record Sheet : Type 0 where
  pub group : ℕ
  pub start : ℕ
  pub end : ℕ
  pub first : ℕ
  pub rows : List Row

-- its interval has a length
abbrev pub HasLength : Sheet → Type 0
HasLength s = s.start < s.end

-- the model that has the worker at part x; 0 if it is idle
abbrev pub holder : Row → ℕ → ℕ
holder [] x = 0
holder (span ∷ row) x = if nat_lt x span.end then span.model else holder row x

-- the spans follow one another from one part to another; each has a length, and neighbours differ, so that neighbouring idle spans are joined
abbrev pub Tiles : ℕ → ℕ → Row → Type 0
Tiles from to [] = from ≡ to
Tiles from to (span ∷ []) = (from < span.end) × (span.end ≡ to)
Tiles from to (span ∷ (next ∷ row)) = (from < span.end) × (span.model ≢ next.model) × Tiles span.end to (next ∷ row)

-- a row says who has a worker at each of so many parts, in the fewest spans; `has i x` tells whether model i has it at part x
pub record Says (len : ℕ) (has : ℕ → ℕ → Bool) (row : Row) : Type 0 where
  pub tiles : Tiles 0 len row
  pub says : (i x : ℕ) → 1 ≤ i → x < len → (holder row x == i) ≡ has i x

-- how many workers have model i at part x of the interval
abbrev pub rows_with : List Row → ℕ → ℕ → ℕ
rows_with [] i x = 0
rows_with (row ∷ rows) i x = (if holder row x == i then 1 else 0) + rows_with rows i x

-- the same at part x of all time, where a tick has so many parts
abbrev pub sheet_with : ℕ → Sheet → ℕ → ℕ → ℕ
sheet_with grain s i x = if nat_le (s.start * grain) x && nat_lt x (s.end * grain) then rows_with s.rows i (x - s.start * grain) else 0

-- by all of these sheets
abbrev pub workers_with : ℕ → List Sheet → ℕ → ℕ → ℕ
workers_with grain [] i x = 0
workers_with grain (s ∷ sheets) i x = sheet_with grain s i x + workers_with grain sheets i x

-- the parts that the sheets give model i from one part of all time up to but without another
abbrev pub got : ℕ → List Sheet → ℕ → ℕ → ℕ → ℕ
got grain sheets i from to = between from to (workers_with grain sheets i)

-- a sheet as words: the number of workers; how many spans each has; all ends, worker after worker; all models likewise
abbrev pub words_of : Sheet → List ℕ
words_of s = length s.rows ∷ map length s.rows ++ flat_map (map (λ (span : Span). span.end)) s.rows ++ flat_map (map (λ (span : Span). span.model)) s.rows
