-- Sets with the same numbers are the same.
use Rattle.std.proofs.Common.{◌≡◌, ℕ, ◌≤◌, List, [], ◌∷◌, length, map, refl, arith}
use mathlib.Core.HLevel.{is_prop→PathP}
use Rattle.std.proofs.Props.{props}
use Rattle.set.specs.Models.{Timed, Costed, Clear}
use Rattle.set.specs.Sets.{costs_of, periods_of}
use Rattle.set.specs.declared.models.Model.{Model}
use Rattle.set.specs.declared.sizes.Sizes.{Sizes}
use Rattle.set.specs.declared.sets.Set.{Set}

pub same_sizes : (s t : Sizes) → s.models ≡ t.models → s.workers ≡ t.workers → s.group_size ≡ t.group_size → s.grain ≡ t.grain → s ≡ t
same_sizes s t models workers group grain i = record {
  models = models i;
  workers = workers i;
  group_size = group i;
  grain = grain i;
  some_models = is_prop→PathP (λ j. 1 ≤ models j) (λ _. Prim.hlevel props) s.some_models t.some_models i;
  few_models = is_prop→PathP (λ j. models j ≤ 64) (λ _. Prim.hlevel props) s.few_models t.few_models i;
  some_workers = is_prop→PathP (λ j. 1 ≤ workers j) (λ _. Prim.hlevel props) s.some_workers t.some_workers i;
  few_workers = is_prop→PathP (λ j. workers j ≤ 32) (λ _. Prim.hlevel props) s.few_workers t.few_workers i;
  some_group = is_prop→PathP (λ j. 1 ≤ group j) (λ _. Prim.hlevel props) s.some_group t.some_group i;
  small_group = is_prop→PathP (λ j. group j ≤ workers j) (λ _. Prim.hlevel props) s.small_group t.small_group i;
  some_grain = is_prop→PathP (λ j. 1 ≤ grain j) (λ _. Prim.hlevel props) s.some_grain t.some_grain i;
  small_grain = is_prop→PathP (λ j. grain j ≤ 100800) (λ _. Prim.hlevel props) s.small_grain t.small_grain i;
}

pub same_models : (ms ns : List Model) → map (λ (m : Model). m.cost) ms ≡ map (λ (m : Model). m.cost) ns → map (λ (m : Model). m.period) ms ≡ map (λ (m : Model). m.period) ns → ms ≡ ns
same_models [] [] costs periods = refl
same_models [] (n ∷ ns) costs periods = let z : ◌≡◌ {A = ℕ} 0 1 = cc in absurd (omega arith)
same_models (m ∷ ms) [] costs periods = let z : ◌≡◌ {A = ℕ} 0 1 = cc in absurd (omega arith)
same_models (m ∷ ms) (n ∷ ns) costs periods =
    let cost : m.cost ≡ n.cost = cc in
    let period : m.period ≡ n.period = cc in
    let first : m ≡ n = λ i. record { cost = cost i; period = period i } in
    let rest : ms ≡ ns = same_models ms ns (cc) (cc) in
    cc

pub same_sets : (s t : Set) → s.sizes ≡ t.sizes → costs_of s ≡ costs_of t → periods_of s ≡ periods_of t → s ≡ t
same_sets s t sizes costs periods i = record {
  sizes = sizes i;
  models = models i;
  timed = is_prop→PathP (λ j. Timed (sizes j).models (sizes j).grain (models j)) (λ _. Prim.hlevel props) s.timed t.timed i;
  costed = is_prop→PathP (λ j. Costed (sizes j).models (models j)) (λ _. Prim.hlevel props) s.costed t.costed i;
  clear = is_prop→PathP (λ j. Clear (sizes j).models (models j)) (λ _. Prim.hlevel props) s.clear t.clear i;
  full = is_prop→PathP (λ j. length (models j) ≡ 64) (λ _. Prim.hlevel props) s.full t.full i;
}
  where
    models : s.models ≡ t.models
    models = same_models s.models t.models costs periods
