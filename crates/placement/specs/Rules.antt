-- The rules of placement. Workers and models are counted from 1; the model in slot i has the number i + 1.
use Rattle.std.specs.Prelude.{ℕ, zero, suc, ◌+◌, ◌-◌, ◌%◌, Bool, cond, not, ◌&&◌, ◌||◌, None, Option, ◌==◌, nat_le, nat_lt}
use Rattle.refusal.specs.Refusals.{Complaint, number_of, check, first_below}
use Rattle.refusal.specs.declared.Fault.TheVariants.{Heavy, Full}
use Rattle.refusal.specs.declared.Layer.TheVariants.{Placement}
use Rattle.set.specs.declared.sets.Set.{Set}
use Rattle.set.specs.Sets.{models_of, worker_count_of, group_size_of, grain_of, weight_of}
use Rattle.set.specs.Heavy.{heavy, heavies, heavy_count_of}
use Rattle.plan.specs.declared.pieces.Pieces.{Pieces}
use Rattle.plan.specs.declared.pieces.Pieces.TheVariants.{Whole, Divided}
use Rattle.placement.specs.declared.cursors.Cursor.{Cursor}

-- the model fits whole on the worker
abbrev pub fits : ℕ → Cursor → ℕ → Bool
fits grain s weight = nat_le (s.load + weight) grain

-- a group of k workers ends with this one, where workers 1 to alone are groups of one
abbrev pub ends : ℕ → ℕ → ℕ → Bool
ends alone k p = (p - alone) % k == 0

-- a light model goes whole on the worker if it fits; else whole on the next if the group ends here or the worker is full;
-- else it is divided, and its first piece fills the worker
abbrev pub seated : ℕ → ℕ → ℕ → Cursor → ℕ → Pieces
seated alone k grain s weight =
    cond (fits grain s weight) (Whole s.worker weight)
    (cond (ends alone k s.worker || s.load == grain) (Whole (s.worker + 1) weight)
    (Divided s.worker (grain - s.load) (s.load + weight - grain)))

-- the worker that is filled next: the last one that the model is on
abbrev pub moved : Cursor → Pieces → Cursor
moved s (Whole p size) = record { worker = p; load = cond (p == s.worker) (s.load + size) size }
moved s (Divided p first second) = record { worker = p + 1; load = second }

-- a light model finds no room on the last worker: the place is its number
abbrev pub no_room : ℕ → Complaint
no_room model = record { number = number_of Full; layer = Placement; place = model }

-- the heavy models leave too few workers: the place is how many they are
abbrev pub too_heavy : ℕ → Complaint
too_heavy count = record { number = number_of Heavy; layer = Placement; place = count }

module _ (set : Set) where
  -- the worker that is being filled when model i comes, and its load by then: at first the one behind the heavy models'
  abbrev pub cursor : ℕ → Cursor
  cursor zero = record { worker = heavy_count_of set + 1; load = 0 }
  cursor (suc i) = cond (heavy set i) (cursor i) (moved (cursor i) (seated (heavy_count_of set) (group_size_of set) (grain_of set) (cursor i) (weight_of set i)))

  -- where model i goes: a heavy one alone on the next of the first workers
  abbrev pub placed : ℕ → Pieces
  placed i = cond (heavy set i) (Whole (heavies set i + 1) (weight_of set i)) (seated (heavy_count_of set) (group_size_of set) (grain_of set) (cursor i) (weight_of set i))

  -- the heavy models need a worker each, and the light ones, if any, at least one more
  abbrev pub room_for_light : Bool
  room_for_light = nat_lt (heavy_count_of set) (worker_count_of set) || (heavy_count_of set == worker_count_of set && heavy_count_of set == models_of set)

  -- a light model that does not fit on the last worker
  abbrev pub about_light : ℕ → Option Complaint
  about_light i =
      check (heavy set i || (fits (grain_of set) (cursor i) (weight_of set i) || not ((cursor i).worker == worker_count_of set)))
      (no_room (i + 1)) None

  -- all that can be wrong with a set when it is placed, the first fault first
  abbrev pub about_placing : Option Complaint
  about_placing =
      check room_for_light (too_heavy (heavy_count_of set))
      (first_below about_light (models_of set))

  -- the weight of the first n models
  abbrev pub total_weight : ℕ → ℕ
  total_weight zero = 0
  total_weight (suc n) = total_weight n + weight_of set n
