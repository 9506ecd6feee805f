-- The plain book, and what is read off it. It holds no phase, no counter and no remaining parts.
use Rattle.std.specs.Prelude.{ℕ, ◌+◌, ◌-◌, ◌*◌, Bool, true, false, if◌then◌else◌, not, ◌&&◌, ◌||◌, List, [], ◌∷◌, ◌++◌, nat_lt, ◌==◌}
use Rattle.set.specs.Limits.{within}
use Rattle.kinds.specs.declared.runs.Run.{Run}
use Rattle.plan.specs.Shares.{worker_of}
use Rattle.dates.specs.Dates.{NoneFrom}
use Rattle.book.specs.Sums.{some_of, latest}
use Rattle.book.specs.Racks.{Rack}
use Rattle.book.specs.Sheets.{Sheet, got}

pub record Book : Type 0 where
  -- of a group: the tick up to which it has gone, and whether its next sheet is mirrored
  pub present : ℕ → ℕ
  pub mirrored : ℕ → Bool
  -- the models that are withdrawn
  pub withdrawn : ℕ → Bool
  -- all sheets, the first one first
  pub sheets : List Sheet

abbrev pub blank : Book
blank = record { present = λ g. 0; mirrored = λ g. false; withdrawn = λ i. false; sheets = [] }

-- x at k, and elsewhere as before
abbrev pub put : {X : Type 0} → ℕ → X → (ℕ → X) → ℕ → X
put k x f j = if j == k then x else f j

-- a sheet more: its group has gone to the end of it, and the next one is mirrored if this one was not
abbrev pub entered : Book → Sheet → Book
entered b s = record {
  present = put s.group s.end b.present;
  mirrored = put s.group (not (b.mirrored s.group)) b.mirrored;
  withdrawn = b.withdrawn;
  sheets = b.sheets ++ s ∷ [];
}

-- a withdrawn model more
abbrev pub without : Book → ℕ → Book
without b i = record b { withdrawn = put i true b.withdrawn }

module _ (rack : Rack) where
  abbrev pub is_model_of : ℕ → Bool
  is_model_of i = within 1 rack.models i

  -- the group of a model
  abbrev pub group_with : ℕ → ℕ
  group_with i = rack.group (worker_of (rack.pieces i))

  -- the present of a model is that of its group
  abbrev pub present_of : Book → ℕ → ℕ
  present_of b i = b.present (group_with i)

  abbrev pub in_use : Book → ℕ → Bool
  in_use b i = is_model_of i && not (b.withdrawn i)

module _ (rack : Rack) (dates : ℕ → ℕ → Bool) (b : Book) where
  -- the latest date of model i up to its present, or 0 where there is none: so `is_live` asks whether it is a date
  abbrev pub date_of : ℕ → ℕ
  date_of i = latest (dates i) (present_of rack b i)

  abbrev pub deadline_of : ℕ → ℕ
  deadline_of i = date_of i + rack.period i

  -- model i has a run: it is in use, and had a date less than a period ago
  abbrev pub is_live : ℕ → Bool
  is_live i = in_use rack b i && (dates i (date_of i) && nat_lt (present_of rack b i) (deadline_of i))

  -- what its run has got
  abbrev pub served : ℕ → ℕ
  served i = got rack.grain b.sheets i (date_of i * rack.grain) (present_of rack b i * rack.grain)

  -- what its run still needs
  abbrev pub left : ℕ → ℕ
  left i = rack.parts i - served i

  abbrev pub run_of : ℕ → Run
  run_of i = record { model = i; deadline = deadline_of i; remaining = left i }

  -- at tick t a model of group g that is in use has a date, or its run ends
  abbrev pub is_moment : ℕ → ℕ → Bool
  is_moment g t = some_of rack.models (λ i. (group_with rack i == g) && (in_use rack b i && (dates i t || (is_live i && deadline_of i == t))))

  -- group g is at rest: it has no later moment
  abbrev pub AtRest : ℕ → Type 0
  AtRest g = NoneFrom (is_moment g) (b.present g + 1)
