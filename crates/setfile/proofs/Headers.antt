-- What the sizes at the head of a file leave to be at fault.
use Rattle.std.proofs.Common.{◌≡◌, ℕ, ◌+◌, ◌*◌, ◌<◌, ◌≤◌, List, length, get_or, Some, None, ◌∙◌, arith}
use Rattle.std.proofs.lemmas.Bool.Decides.{nat_tests}
use Rattle.refusal.specs.Refusals.{Complaint}
use Rattle.set.specs.Limits.{about_sizes, about_models}
use Rattle.set.specs.declared.sizes.Sizes.{Sizes}
use Rattle.setfile.specs.Format.{word_at, words_at}
use Rattle.setfile.specs.Reading.{size_for, too_short, too_long, about_file}
use Rattle.setfile.proofs.Faultless.{good_sizes}

-- a file begins with good sizes
pub record Heads (bytes : List ℕ) (sizes : Sizes) : Type 0 where
  pub long : 16 ≤ length bytes
  pub models' : sizes.models ≡ word_at bytes 0
  pub workers' : sizes.workers ≡ word_at bytes 4
  pub group' : sizes.group_size ≡ word_at bytes 8
  pub grain' : sizes.grain ≡ word_at bytes 12

-- the four words of a header
module _ (bytes : List ℕ) (long : 16 ≤ length bytes) (ws : List ℕ) (words : (i : ℕ) → i < 4 → 4 * i + 4 ≤ length bytes → get_or ws i 0 ≡ word_at bytes (4 * i)) where
  word_is : (i : ℕ) → i < 4 → get_or ws i 0 ≡ word_at bytes (4 * i)
  word_is i h = words i h (omega arith)

  -- the first fault is in the sizes
  pub bad_sizes : (complaint : Complaint) → about_sizes (get_or ws 0 0) (get_or ws 1 0) (get_or ws 2 0) (get_or ws 3 0) ≡ Some complaint → about_file bytes ≡ Some complaint
  bad_sizes complaint bad =
      grind (arith, nat_tests, word_is 0 (omega arith), word_is 1 (omega arith), word_is 2 (omega arith), word_is 3 (omega arith))

  pub heads_read : (sizes : Sizes) → (sizes.models ≡ get_or ws 0 0) × (sizes.workers ≡ get_or ws 1 0) × (sizes.group_size ≡ get_or ws 2 0) × (sizes.grain ≡ get_or ws 3 0) → Heads bytes sizes
  heads_read sizes is = record {
    long = long;
    models' = is.0 ∙ word_is 0 (omega arith);
    workers' = is.1 ∙ word_is 1 (omega arith);
    group' = is.2 ∙ word_is 2 (omega arith);
    grain' = is.3 ∙ word_is 3 (omega arith);
  }

module _ (bytes : List ℕ) (sizes : Sizes) (heads : Heads bytes sizes) where
  good_head : about_sizes (word_at bytes 0) (word_at bytes 4) (word_at bytes 8) (word_at bytes 12) ≡ None
  good_head = rw (← heads.models', ← heads.workers', ← heads.group', ← heads.grain') (good_sizes sizes)

  pub bad_short : length bytes < size_for sizes.models → about_file bytes ≡ Some (too_short (length bytes))
  bad_short short = grind (arith, nat_tests, good_head, heads.models', heads.long)

  pub bad_long : (size : ℕ) → size ≡ size_for sizes.models → size < length bytes → about_file bytes ≡ Some (too_long size)
  bad_long size is over = grind (arith, nat_tests, good_head, heads.models', heads.long)

  -- at the right length only the models are left
  pub past_header : length bytes ≡ size_for sizes.models → about_file bytes ≡ about_models sizes.grain (words_at bytes 16 sizes.models) (words_at bytes (16 + 4 * sizes.models) sizes.models)
  past_header level = grind (arith, nat_tests, good_head, heads.models', heads.grain', heads.long)
