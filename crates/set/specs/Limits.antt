-- The limits of a set, and the order in which they are tested.
use Rattle.std.specs.Prelude.{ℕ, ◌+◌, ◌%◌, Bool, ◌&&◌, List, length, None, Option, ◌==◌, nat_le, slice_index}
use Rattle.refusal.specs.Refusals.{Complaint, number_of, check, or_else, first_below}
use Rattle.refusal.specs.declared.Fault.TheVariants.{Size, Period, Cost}
use Rattle.refusal.specs.declared.Layer.TheVariants.{Set}
use Rattle.set.specs.declared.sizes.SizeKind.{SizeKind}
use Rattle.set.specs.declared.sizes.SizeKind.TheVariants.{Models, Workers, GroupSize, Grain}

abbrev pub within : ℕ → ℕ → ℕ → Bool
within low high x = nat_le low x && nat_le x high

-- the place at which a refusal names a size
abbrev pub place_of : SizeKind → ℕ
place_of Models = 1
place_of Workers = 2
place_of GroupSize = 3
place_of Grain = 4

-- a size that is outside its range; costs and periods that differ in number are a fault of the models
abbrev pub bad_size : SizeKind → Complaint
bad_size kind = record { number = number_of Size; layer = Set; place = place_of kind }

abbrev pub about_sizes : ℕ → ℕ → ℕ → ℕ → Option Complaint
about_sizes models workers group grain =
    check (within 1 64 models) (bad_size Models)
    (check (within 1 32 workers) (bad_size Workers)
    (check (within 1 workers group) (bad_size GroupSize)
    (check (within 1 100800 grain) (bad_size Grain) None)))

-- the period divides the grain
abbrev pub divides : ℕ → ℕ → Bool
divides period grain = nat_le 1 period && grain % period == 0

-- a model, counted from 1, by its cost and its period
abbrev pub about_model : ℕ → ℕ → ℕ → ℕ → Option Complaint
about_model grain model cost period =
    check (divides period grain) (record { number = number_of Period; layer = Set; place = model })
    (check (within 1 period cost) (record { number = number_of Cost; layer = Set; place = model }) None)

abbrev pub about_models : ℕ → List ℕ → List ℕ → Option Complaint
about_models grain costs periods =
    first_below (λ i. about_model grain (i + 1) (slice_index costs i) (slice_index periods i)) (length costs)

-- all that can be wrong with a planner's figures, the first fault first
abbrev pub about_figures : ℕ → ℕ → ℕ → List ℕ → List ℕ → Option Complaint
about_figures workers group grain costs periods =
    check (length costs == length periods) (bad_size Models)
    (or_else (about_sizes (length costs) workers group grain) (about_models grain costs periods))
