-- What the sheets come to that the entries of a list of calls hold, said of nothing but the entries.
use Rattle.std.specs.Prelude.{◌≡◌, ℕ, ◌+◌, ◌-◌, ◌*◌, ◌<◌, ◌≤◌, Bool, false, if◌then◌else◌, ◌||◌, ◌==◌, IsTrue, IsFalse, List, [], ◌∷◌, take, Some, Option, slice_get}
use Rattle.set.specs.Sets.{HasModel}
use Rattle.plan.specs.declared.plans.Plan.{Plan}
use Rattle.book.specs.Racks.{Rack, rack_of, is_divided}
use Rattle.book.specs.Sheets.{Sheet, HasLength, workers_with, got}
use Rattle.book.specs.Books.{group_with}
use Rattle.season.specs.declared.call.Call.{Call}
use Rattle.season.specs.declared.call.Call.TheVariants.{Withdraw}
use Rattle.season.specs.declared.answer.Answer.{Answer}
use Rattle.season.specs.declared.answer.Answer.TheVariants.{Withdrew}
use Rattle.season.specs.declared.entry.Entry.{Entry}
use Rattle.season.specs.Reading.{sheet_in, sheets_in}

-- the tick to which these sheets take group g from tick t: the end of its last one
abbrev pub taken_to : ℕ → ℕ → List Sheet → ℕ
taken_to g t [] = t
taken_to g t (s ∷ sheets) = taken_to g (if g == s.group then s.end else t) sheets

-- whether this call, answered so, withdrew model i
abbrev pub withdrew : ℕ → Call → Option Answer → Bool
withdrew i (Withdraw model) (Some Withdrew) = i == model
withdrew i _ _ = false

-- whether one of these entries withdrew it
abbrev pub one_withdrew : ℕ → List Entry → Bool
one_withdrew i [] = false
one_withdrew i (entry ∷ entries) = withdrew i entry.call entry.answer || one_withdrew i entries

module _ (plan : Plan) (dates : ℕ → ℕ → Bool) (entries : List Entry) where
  abbrev rack : Rack
  rack = rack_of plan

  -- the tick to which the first k entries took group g from tick 0
  abbrev pub present_at : ℕ → ℕ → ℕ
  present_at k g = taken_to g 0 (sheets_in (take k entries))

  -- i is a model of the plan, and none of the first k entries withdrew it
  pub record InUse (k i : ℕ) : Type 0 where
    pub model : HasModel plan.set i
    pub kept : IsFalse (one_withdrew i (take k entries))

  -- entry k, counted from 0, holds the sheet s
  pub record HoldsSheet (k : ℕ) (s : Sheet) : Type 0 where
    pub entry : Entry
    pub there : slice_get entries k ≡ Some entry
    pub reads : sheet_in entry.call entry.answer entry.sheet.now ≡ s ∷ []

  -- entry k withdrew model i
  pub record Withdraws (k i : ℕ) : Type 0 where
    pub entry : Entry
    pub there : slice_get entries k ≡ Some entry
    pub out : IsTrue (withdrew i entry.call entry.answer)

  -- what the sheets come to; a worker gives `grain` parts in a tick
  pub record Serves : Type 0 where
    -- each sheet begins where its group stands, and ends later
    pub joins : (k : ℕ) (s : Sheet) → HoldsSheet k s → (s.start ≡ present_at k s.group) × HasLength s
    -- in its interval each divided model of the group that has a run, since its date d, gets exactly its weight for each tick
    pub shares : (k : ℕ) (s : Sheet) → HoldsSheet k s
        → (i d : ℕ) → InUse k i → group_with rack i ≡ s.group → IsTrue (is_divided (rack.pieces i)) → IsTrue (dates i d) → d ≤ s.start → s.start < d + rack.period i
        → got rack.grain (sheets_in entries) i (s.start * rack.grain) (s.end * rack.grain) ≡ rack.weight i * (s.end - s.start)
    -- at no part of time is a model on two workers
    pub apart : (i x : ℕ) → HasModel plan.set i → workers_with rack.grain (sheets_in entries) i x ≤ 1
    -- where so many entries took a model's group to the deadline of its date d, and none of them withdrew it, that date's run gets exactly its parts between the two
    pub whole : (k i d : ℕ) → InUse k i → IsTrue (dates i d) → d + rack.period i ≤ present_at k (group_with rack i)
        → got rack.grain (sheets_in entries) i (d * rack.grain) ((d + rack.period i) * rack.grain) ≡ rack.parts i
    -- from its withdrawal on, that is from where its group stood then, a model gets nothing
    pub out : (k i : ℕ) → Withdraws k i → (x : ℕ) → present_at k (group_with rack i) * rack.grain ≤ x → workers_with rack.grain (sheets_in entries) i x ≡ 0
