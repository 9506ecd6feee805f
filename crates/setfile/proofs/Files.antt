-- The file of a set: what is read from it, and that no other set has it.
use Rattle.std.proofs.Common.{◌≡◌, ℕ, ◌+◌, ◌*◌, ◌^◌, ◌<◌, List, [], ◌∷◌, ◌++◌, length, take, drop, None, Ok, Err, Result, sym, refl, ap, ◌∙◌, subst, arith}
use Rattle.std.specs.List.{AllByRecursion}
use Rattle.std.proofs.ByRecursion.{All-append, All-from_get_or}
use Rattle.std.proofs.lemmas.List.{length-append, take_at}
use Rattle.refusal.specs.declared.Refusal.{Refusal}
use Rattle.set.specs.Models.{slots_of}
use Rattle.set.specs.Sets.{models_of, grain_of}
use Rattle.set.specs.declared.sets.Set.{Set}
use Rattle.setfile.specs.Format.{word_at, words_at, words_of, file_of}
use Rattle.setfile.specs.Reading.{size_for, about_file, Reads}
use Rattle.setfile.proofs.Bytes.{length_joined}
use Rattle.setfile.proofs.Faultless.{first_costs, first_periods, costs_level, periods_level, costs_from, periods_from, small_cost, small_period, good_models}
use Rattle.setfile.proofs.Headers.{Heads, past_header}
use Rattle.setfile.proofs.Rows.{Row, joined_row, row_front, row_rest, row_read}
use Rattle.set.proofs.Sames.{same_sizes, same_sets}

module _ (s : Set) where
  pub length-words_of : length (words_of s) ≡ 4 + 2 * models_of s
  length-words_of = omega (arith, length-append (first_costs s) (first_periods s), costs_level s, periods_level s)

  pub length-file_of : length (file_of s) ≡ size_for (models_of s)
  length-file_of = omega (arith, length_joined (words_of s), length-words_of)

  small_words : AllByRecursion (λ w. w < 2 ^ 32) (words_of s)
  small_words = (
    omega (arith, s.sizes.few_models),
    (
      omega (arith, s.sizes.few_workers),
      (
        omega (arith, s.sizes.few_workers, s.sizes.small_group),
        (
          omega (arith, s.sizes.small_grain),
          All-append (λ w. w < 2 ^ 32) (first_costs s) (first_periods s)
              (All-from_get_or (λ w. w < 2 ^ 32) (first_costs s) 0 (λ i h. omega (arith, small_cost s i h)))
              (All-from_get_or (λ w. w < 2 ^ 32) (first_periods s) 0 (λ i h. omega (arith, small_period s i h))),
        ),
      ),
    ),
  )

  -- the words of a set stand in its file
  pub file_row : (bytes : List ℕ) → bytes ≡ file_of s → Row bytes 0 (words_of s)
  file_row bytes e i h = ap (λ b. word_at b (0 + 4 * i)) e ∙ joined_row (words_of s) small_words i h

-- bytes in which the words of a set stand
module _ (bytes : List ℕ) (s : Set) (row : Row bytes 0 (words_of s)) where
  models_read : word_at bytes 0 ≡ models_of s
  models_read = row 0 (omega arith)

  workers_read : word_at bytes 4 ≡ s.sizes.workers
  workers_read = row 1 (omega arith)

  group_read : word_at bytes 8 ≡ s.sizes.group_size
  group_read = row 2 (omega arith)

  grain_read : word_at bytes 12 ≡ grain_of s
  grain_read = row 3 (omega arith)

  models_row : Row bytes 16 (first_costs s ++ first_periods s)
  models_row =
      row_rest bytes 0 (models_of s ∷ (s.sizes.workers ∷ (s.sizes.group_size ∷ (grain_of s ∷ []))))
      (first_costs s ++ first_periods s) 4 refl row

  costs_read : words_at bytes 16 (models_of s) ≡ first_costs s
  costs_read =
      row_read bytes 16 (first_costs s) (models_of s) (costs_level s) (row_front bytes 16 (first_costs s) (first_periods s) models_row)

  periods_read : words_at bytes (16 + 4 * models_of s) (models_of s) ≡ first_periods s
  periods_read =
      row_read bytes (16 + 4 * models_of s) (first_periods s) (models_of s) (periods_level s)
      (row_rest bytes 16 (first_costs s) (first_periods s) (models_of s) (costs_level s) models_row)

  pub no_fault : length bytes ≡ size_for (models_of s) → about_file bytes ≡ None
  no_fault level = past_header bytes s.sizes heads level ∙ rw (costs_read, periods_read) (good_models s)
    where
      heads : Heads bytes s.sizes
      heads = record {
        long = omega arith;
        models' = sym models_read;
        workers' = sym workers_read;
        group' = sym group_read;
        grain' = sym grain_read;
      }

-- one file, one set
pub one_set : (bytes : List ℕ) (s t : Set) → bytes ≡ file_of s → bytes ≡ file_of t → s ≡ t
one_set bytes s t es et =
    let p = file_row s bytes es in
    let q = file_row t bytes et in
    let models = sym (models_read bytes s p) ∙ models_read bytes t q in
    same_sets s t
    (same_sizes s.sizes t.sizes models (sym (workers_read bytes s p) ∙ workers_read bytes t q) (sym (group_read bytes s p) ∙ group_read bytes t q) (sym (grain_read bytes s p) ∙ grain_read bytes t q))
    (costs_from s ∙ ap slots_of (sym (costs_read bytes s p) ∙ ap (words_at bytes 16) models ∙ costs_read bytes t q) ∙ sym (costs_from t))
    (periods_from s ∙ ap slots_of (sym (periods_read bytes s p) ∙ ap (λ n. words_at bytes (16 + 4 * n) n) models ∙ periods_read bytes t q) ∙ sym (periods_from t))

-- the file of a set reads as that set
pub reads_back : (bytes : List ℕ) (r : Result Set Refusal) → Reads bytes r → (s : Set) → bytes ≡ file_of s → r ≡ Ok s
reads_back bytes (Ok t) reads s e = ap Ok (one_set bytes t s reads.1 e)
reads_back bytes (Err x) reads s e =
    let none = no_fault bytes s (file_row s bytes e) (ap length e ∙ length-file_of s) in
    let z : ◌≡◌ {A = ℕ} 0 1 = cc in
    absurd (omega arith)

-- one set, one file
pub one_file : (bytes : List ℕ) (r : Result Set Refusal) → Reads bytes r → (s : Set) (other : List ℕ) → r ≡ Ok s → Reads other (Ok s) → other ≡ bytes
one_file bytes r reads s other is also = also.1 ∙ sym (subst (Reads bytes) is reads).1

-- what was written reads back
pub written_back : (s : Set) (n : ℕ) (before after : List ℕ) → n ≡ size_for (models_of s) → after ≡ file_of s ++ drop n before → (r : Result Set Refusal) → Reads (take n after) r → r ≡ Ok s
written_back s n before after is e r reads =
    reads_back (take n after) r reads s (ap (take n) e ∙ take_at (file_of s) (drop n before) n (length-file_of s ∙ sym is))
