-- More bytes than the longest file has are refused the same, whatever stands behind them.
use Rattle.std.proofs.Common.{◌≡◌, ℕ, ◌+◌, ◌*◌, ◌<◌, ◌≤◌, nat_le, List, ◌++◌, length, get_or, None, Some, Ok, Err, Option, Result, refl, sym, ◌∙◌, arith}
use Rattle.std.proofs.lemmas.Bool.{and_parts, le-leb, leb-true, lt-leb}
use Rattle.std.proofs.lemmas.List.{get_or_append_left, length-append}
use Rattle.refusal.specs.Refusals.{Complaint, told, check, or_else}
use Rattle.refusal.specs.declared.Refusal.{Refusal}
use Rattle.refusal.proofs.Firsts.{passed}
use Rattle.set.specs.declared.sets.Set.{Set}
use Rattle.set.specs.Limits.{about_sizes, about_models}
use Rattle.setfile.specs.Format.{word_at, words_at}
use Rattle.setfile.specs.Reading.{too_short, too_long, size_for, about_file, Reads}

-- the sizes, or the first complaint about them
abbrev sizes_in : List ℕ → Option Complaint
sizes_in bytes = about_sizes (word_at bytes 0) (word_at bytes 4) (word_at bytes 8) (word_at bytes 12)

-- what is wrong where the sizes are right: there are too many bytes
abbrev rest_of : (bytes : List ℕ) → Option Complaint
rest_of bytes =
    check (nat_le (size_for (word_at bytes 0)) (length bytes)) (too_short (length bytes))
    (check (nat_le (length bytes) (size_for (word_at bytes 0))) (too_long (size_for (word_at bytes 0)))
    (about_models (word_at bytes 12) (words_at bytes 16 (word_at bytes 0)) (words_at bytes (16 + 4 * word_at bytes 0) (word_at bytes 0))))

too_many : (bytes : List ℕ) → 528 < length bytes → word_at bytes 0 ≤ 64 → rest_of bytes ≡ Some (too_long (size_for (word_at bytes 0)))
too_many bytes long few = rw (le-leb (size_for (word_at bytes 0)) (length bytes) (omega arith), lt-leb (length bytes) (size_for (word_at bytes 0)) (omega arith)) refl

-- a file of many bytes is refused by its first words alone
first_words : (bytes : List ℕ) → 528 < length bytes → about_file bytes ≡ or_else (sizes_in bytes) (Some (too_long (size_for (word_at bytes 0))))
first_words bytes long = rw (le-leb 16 (length bytes) (omega arith)) (by_sizes (sizes_in bytes) refl)
  where
    by_sizes : (sizes : Option Complaint) → sizes_in bytes ≡ sizes → or_else (sizes_in bytes) (rest_of bytes) ≡ or_else (sizes_in bytes) (Some (too_long (size_for (word_at bytes 0))))
    by_sizes (Some complaint) is = rw is refl
    by_sizes None is =
        let few = leb-true (word_at bytes 0) 64 (and_parts _ _ (passed _ _ _ is).0).1 in
        rw is (too_many bytes long few)

same_word : (bytes more : List ℕ) (at : ℕ) → at + 4 ≤ length bytes → word_at (bytes ++ more) at ≡ word_at bytes at
same_word bytes more at there =
    let byte : (k : ℕ) → k < length bytes → get_or (bytes ++ more) k 0 ≡ get_or bytes k 0 = get_or_append_left bytes more 0 in
    rw (byte at (omega arith), byte (at + 1) (omega arith), byte (at + 2) (omega arith), byte (at + 3) (omega arith)) refl

same_file : (bytes more : List ℕ) → 528 < length bytes → about_file (bytes ++ more) ≡ about_file bytes
same_file bytes more long =
    let same = same_word bytes more in
    first_words (bytes ++ more) (omega (arith, length-append bytes more))
    ∙ rw (same 0 (omega arith), same 4 (omega arith), same 8 (omega arith), same 12 (omega arith)) refl
    ∙ sym (first_words bytes long)

pub refused_longer : (bytes : List ℕ) (complaint : Complaint) → about_file bytes ≡ Some complaint → (more : List ℕ) → 528 < length bytes → about_file (bytes ++ more) ≡ Some complaint
refused_longer bytes complaint is more long = same_file bytes more long ∙ is

-- so many bytes are no file
no_file : (bytes : List ℕ) → 528 < length bytes → about_file bytes ≡ None → ⊥
no_file bytes long fine = never (sizes_in bytes) (sym (first_words bytes long) ∙ fine)
  where
    never : (sizes : Option Complaint) → or_else sizes (Some (too_long (size_for (word_at bytes 0)))) ≡ None → ⊥
    never (Some complaint) none = cc
    never None none = cc

pub reads_longer : (bytes : List ℕ) (r : Result Set Refusal) → Reads bytes r → (more : List ℕ) → 528 < length bytes → Reads (bytes ++ more) r
reads_longer bytes (Ok set) reads more long = absurd (no_file bytes long reads.0)
reads_longer bytes (Err e) reads more long = refused_longer bytes (told e) reads more long
