-- What reading and writing a set file answer.
use Rattle.std.specs.Prelude.{◌≡◌, ℕ, ◌+◌, ◌*◌, List, ◌++◌, length, take, drop, None, Ok, Option, Result, nat_le}
use Rattle.refusal.specs.Refusals.{Complaint, number_of, check, or_else, Answers}
use Rattle.refusal.specs.declared.Fault.TheVariants.{Short, Long}
use Rattle.refusal.specs.declared.Layer.TheVariants.{File}
use Rattle.refusal.specs.declared.Refusal.{Refusal}
use Rattle.set.specs.declared.sets.Set.{Set}
use Rattle.set.specs.declared.figures.Figures.{Figures}
use Rattle.set.specs.Sets.{about, MadeOf}
use Rattle.set.specs.Limits.{about_sizes, about_models}
use Rattle.setfile.specs.Format.{file_of, word_at, words_at}

-- fewer bytes than there should be: the place is how many were given; and more: the place is how many there should be
abbrev pub too_short : ℕ → Complaint
too_short given = record { number = number_of Short; layer = File; place = given }

abbrev pub too_long : ℕ → Complaint
too_long size = record { number = number_of Long; layer = File; place = size }

-- the bytes of a file with this many models
abbrev pub size_for : ℕ → ℕ
size_for models = 16 + 8 * models

-- all that can be wrong with a file, the first fault first
abbrev pub about_file : List ℕ → Option Complaint
about_file bytes =
    check (nat_le 16 (length bytes)) (too_short (length bytes))
    (or_else (about_sizes (word_at bytes 0) (word_at bytes 4) (word_at bytes 8) (word_at bytes 12))
    (check (nat_le (size_for (word_at bytes 0)) (length bytes)) (too_short (length bytes))
    (check (nat_le (length bytes) (size_for (word_at bytes 0))) (too_long (size_for (word_at bytes 0)))
    (about_models (word_at bytes 12) (words_at bytes 16 (word_at bytes 0)) (words_at bytes (16 + 4 * word_at bytes 0) (word_at bytes 0))))))

-- what a file gives: the set whose file it is, or a refusal for its first fault
abbrev pub Reads : List ℕ → Result Set Refusal → Type 0
Reads bytes r = Answers (about_file bytes) r (λ set. bytes ≡ file_of set)

-- all that can be wrong when figures are written to a buffer of some bytes
abbrev pub about_writing : Figures → ℕ → Option Complaint
about_writing f room =
    or_else (about f)
    (check (nat_le (size_for (length f.costs.now)) room) (too_short room) None)

-- the first n bytes after the writing are the file of the figures' set, and read back as that set; the others stay as they were before
pub record Wrote (f : Figures) (n : ℕ) (before after : List ℕ) : Type 0 where
  pub set : Set
  pub made : MadeOf f set
  pub bytes : after ≡ file_of set ++ drop n before
  pub back : (r : Result Set Refusal) → Reads (take n after) r → r ≡ Ok set
