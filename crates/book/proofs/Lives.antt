-- Which models have a run, and what that makes a moment.
use Rattle.std.proofs.Common.{◌≡◌, ℕ, ◌+◌, ◌<◌, ◌≤◌, Bool, ◌&&◌, ◌||◌, inl, inr, refl, arith}
use Rattle.std.specs.Bool.{IsTrue, IsFalse, ◌==◌}
use Rattle.std.proofs.lemmas.Bool.{cases_lt, both_ways, and_parts, and_from, or_left, or_right, eq-eqb, lt-ltb, ltb-true, false_from_ne_true}
use Rattle.book.specs.Racks.{Rack}
use Rattle.book.specs.Books.{Book, is_model_of, group_with, present_of, in_use, date_of, deadline_of, is_live, is_moment}
use Rattle.book.proofs.Sums.{some_of_at, latest_le, latest_is}
use Rattle.book.proofs.Racks.{within_both}

-- dates of a model lie a period apart
pub record KeepsApart (rack : Rack) (dates : ℕ → ℕ → Bool) : Type 0 where
  pub period_apart : (i d e : ℕ) → IsTrue (is_model_of rack i) → d < e → IsTrue (dates i d) → IsTrue (dates i e) → d + rack.period i ≤ e

module _ (rack : Rack) (b : Book) where
  pub used_model : (i : ℕ) → IsTrue (in_use rack b i) → IsTrue (is_model_of rack i)
  used_model i h = (and_parts _ _ h).0

module _ (rack : Rack) (dates : ℕ → ℕ → Bool) (b : Book) where
  -- a live model's date is one, not ahead, and its run still goes on
  pub record Lives (i : ℕ) : Type 0 where
    pub used : IsTrue (in_use rack b i)
    pub date : IsTrue (dates i (date_of rack dates b i))
    pub begun : date_of rack dates b i ≤ present_of rack b i
    pub goes : present_of rack b i < deadline_of rack dates b i

  pub lives : (i : ℕ) → IsTrue (is_live rack dates b i) → Lives i
  lives i h =
      let a = and_parts _ _ h in
      let c = and_parts _ _ a.1 in
      record { used = a.0; date = c.0; begun = latest_le (dates i) (present_of rack b i); goes = ltb-true _ _ c.1 }

  -- its group has a moment at each of its dates, and where its run ends
  moment_of : (i t : ℕ) → IsTrue (in_use rack b i) → IsTrue (dates i t || (is_live rack dates b i && (deadline_of rack dates b i == t))) → IsTrue (is_moment rack dates b (group_with rack i) t)
  moment_of i t used why =
      let bounds = within_both 1 rack.models i (used_model rack b i used) in
      some_of_at rack.models _ i bounds.0 bounds.1 (and_from _ _ (eq-eqb _ _ refl) (and_from _ _ used why))

  pub moment_at_date : (i t : ℕ) → IsTrue (in_use rack b i) → IsTrue (dates i t) → IsTrue (is_moment rack dates b (group_with rack i) t)
  moment_at_date i t used date = moment_of i t used (or_left _ _ date)

  pub moment_at_deadline : (i : ℕ) → IsTrue (is_live rack dates b i) → IsTrue (is_moment rack dates b (group_with rack i) (deadline_of rack dates b i))
  moment_at_deadline i live = moment_of i _ (lives i live).used (or_right _ _ (and_from _ _ live (eq-eqb _ _ refl)))

module _ {rack : Rack} {dates : ℕ → ℕ → Bool} (apart : KeepsApart rack dates) (b : Book) where
  -- a date from which less than a period has gone is that of a live run
  pub live_from : (i d : ℕ) → IsTrue (in_use rack b i) → IsTrue (dates i d) → d ≤ present_of rack b i → present_of rack b i < d + rack.period i → IsTrue (is_live rack dates b i) × (date_of rack dates b i ≡ d)
  live_from i d used date begun goes =
      let is : date_of rack dates b i ≡ d = latest_is (dates i) (present_of rack b i) d begun date (λ x l m. false_from_ne_true _ (λ e. absurd (omega (arith, apart.period_apart i d x (used_model rack b i used) l date e)))) in
      (and_from _ _ used (and_from (dates i (date_of rack dates b i)) _ (rw is date) (lt-ltb (present_of rack b i) (deadline_of rack dates b i) (rw is goes))), is)

  -- a model that has no run had none of its dates less than a period ago
  pub past_dates : (i d : ℕ) → IsTrue (in_use rack b i) → IsFalse (is_live rack dates b i) → IsTrue (dates i d) → d ≤ present_of rack b i → d + rack.period i ≤ present_of rack b i
  past_dates i d used dead date begun = elim (cases_lt (present_of rack b i) (d + rack.period i)) [
    | inl goes ↦ absurd (both_ways _ dead (live_from i d used date begun goes).0)
    | inr gone ↦ gone
  ]
