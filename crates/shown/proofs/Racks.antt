-- The rack of a plan without heavy models, written out.
use Rattle.std.proofs.Common.{◌≡◌, ℕ, zero, suc, ◌+◌, ◌-◌, ◌*◌, ◌/◌, List, [], ◌∷◌, length, None, ap, ◌∙◌, arith}
use Rattle.set.specs.declared.sets.Set.{Set}
use Rattle.set.specs.Sets.{Made, models_of, worker_count_of, group_size_of, grain_of, period_of, parts_of, weight_of}
use Rattle.set.specs.Models.{cost_at, period_at}
use Rattle.set.specs.Heavy.{heavy_count_of}
use Rattle.plan.specs.declared.pieces.Pieces.{Pieces}
use Rattle.plan.specs.declared.plans.Plan.{Plan}
use Rattle.plan.specs.Shares.{pieces_at}
use Rattle.plan.specs.Groups.{group_of}
use Rattle.placement.specs.Rules.{about_placing, placed}
use Rattle.placement.specs.Placing.{Seated, Follows}
use Rattle.book.specs.Racks.{Rack, rack_of}
use Rattle.shown.specs.Examples.{Gives}
use Rattle.shown.proofs.Written.{Holds, slots, written, is_written}

-- the rules place the models from slot k on there, and there are no more
abbrev ArePlaced : Set → ℕ → List Pieces → Type 0
ArePlaced set k [] = models_of set ≡ k
ArePlaced set k (x ∷ places) = (placed set k ≡ x) × ArePlaced set (k + 1) places

-- how many there are
count : (set : Set) (k : ℕ) (places : List Pieces) → ArePlaced set k places → models_of set ≡ k + length places
count set k [] e = omega arith
count set k (x ∷ places) e = omega (arith, count set (k + 1) places e.1)

-- so they are there in every plan
seated_there : (set : Set) (pieces : List Pieces) → Seated set (models_of set) pieces → (places : List Pieces) (k j : ℕ) → ArePlaced set k places → pieces_at pieces (k + j) ≡ pieces_at places j
seated_there set pieces s [] k j e = s.behind (k + j) (omega arith)
seated_there set pieces s (x ∷ places) k zero e =
    let there : k + 0 ≡ k = omega arith in
    rw there (s.each k (omega (arith, count set k (x ∷ places) e)) ∙ e.0)
seated_there set pieces s (x ∷ places) k (suc j) e =
    let next : k + suc j ≡ k + 1 + j = omega arith in
    rw next (seated_there set pieces s places (k + 1) j e.1)

module _ (workers group grain : ℕ) (costs periods : List ℕ) (places : List Pieces) where
  abbrev pub rack_by : Rack
  rack_by = record {
    models = length costs;
    workers = workers;
    grain = grain;
    group = group_of 0 group;
    period = λ i. period_at (slots costs periods) (i - 1);
    parts = λ i. cost_at (slots costs periods) (i - 1) * grain;
    weight = λ i. cost_at (slots costs periods) (i - 1) * (grain / period_at (slots costs periods) (i - 1));
    pieces = λ i. pieces_at places (i - 1);
  }

  module _ (holds : Holds costs periods) where
    -- what the rules say of a set of these figures: nothing is refused, no model is heavy, and they are placed there
    pub record Rules (set : Set) (made : Made workers group grain costs periods set) : Type 0 where
      pub fits : about_placing (written set made holds) ≡ None
      pub light : heavy_count_of (written set made holds) ≡ 0
      pub there : ArePlaced (written set made holds) 0 places

    -- what a book reads of every plan of such a set
    is_rack : (set : Set) (made : Made workers group grain costs periods set) → Rules set made → (plan : Plan) → Follows (written set made holds) plan → rack_of plan ≡ rack_by
    is_rack set made rules plan follows = path
      where
        placed_at : (i : ℕ) → pieces_at plan.pieces i ≡ pieces_at places i
        placed_at i = let start : 0 + i ≡ i = omega arith in rw start at (seated_there _ plan.pieces follows.seated' places 0 i rules.there)

        path : rack_of plan ≡ rack_by
        path j = record {
          models = models_of (follows.same j);
          workers = worker_count_of (follows.same j);
          grain = grain_of (follows.same j);
          group = group_of ((ap heavy_count_of follows.same ∙ rules.light) j) (group_size_of (follows.same j));
          period = λ i. period_of (follows.same j) (i - 1);
          parts = λ i. parts_of (follows.same j) (i - 1);
          weight = λ i. weight_of (follows.same j) (i - 1);
          pieces = λ i. placed_at (i - 1) j;
        }

    -- what is so of all plans with this rack is so of every plan by the rules
    pub gives : (P : Plan → Type 0) → ((set : Set) (made : Made workers group grain costs periods set) → Rules set made) → ((plan : Plan) → rack_of plan ≡ rack_by → P plan) → Gives (Made workers group grain costs periods) P
    gives P rules so set made =
        rw (is_written set made holds) ((rules set made).fits, λ plan follows. so plan (is_rack set made (rules set made) plan follows))
