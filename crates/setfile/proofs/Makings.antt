-- Figures that are read from a file.
use Rattle.std.proofs.Common.{◌≡◌, ℕ, ◌+◌, ◌*◌, ◌<◌, List, ◌∷◌, ◌++◌, length, get_or, take, Ok, Err, Result, sym, ap, ◌∙◌, arith}
use Rattle.std.specs.List.{flat_map}
use Rattle.std.proofs.lemmas.List.{length-append}
use Rattle.std.proofs.lemmas.Grind.{common_steps}
use Rattle.std.proofs.lemmas.List.FromFn.{length-map-range_with_len}
use Rattle.refusal.specs.Refusals.{Answers}
use Rattle.refusal.specs.declared.Refusal.{Refusal}
use Rattle.set.specs.Limits.{about_sizes, about_figures}
use Rattle.set.specs.Models.{slots_of}
use Rattle.set.specs.Sets.{models_of, costs_of, periods_of, Made}
use Rattle.set.specs.declared.sizes.Sizes.{Sizes}
use Rattle.set.specs.declared.sets.Set.{Set}
use Rattle.set.proofs.Faults.{past_sizes}
use Rattle.setfile.specs.Format.{word_bytes, word_at, words_at, words_of, file_of}
use Rattle.setfile.specs.Reading.{size_for, about_file, Reads}
use Rattle.setfile.proofs.Faultless.{first_costs, first_periods, good_sizes}
use Rattle.setfile.proofs.Headers.{Heads, past_header}
use Rattle.setfile.proofs.Rows.{Row, row_joined, row_header, row_append, read_row}

first_of : (n : ℕ) (xs slots : List ℕ) → n ≡ length xs → slots ≡ slots_of xs → take n slots ≡ xs
first_of n xs slots e is = grind (arith, common_steps)

-- figures make a set
module _ (workers group grain : ℕ) (costs periods : List ℕ) (level : length costs ≡ length periods) (s : Set) (made : Made workers group grain costs periods s) where
  made_models : first_costs s ++ first_periods s ≡ costs ++ periods
  made_models =
      let front = first_of (models_of s) costs (costs_of s) made.models made.costs' in
      let rest = first_of (models_of s) periods (periods_of s) (made.models ∙ level) made.periods' in
      cc

  made_words : words_of s ≡ length costs ∷ (workers ∷ (group ∷ (grain ∷ (costs ++ periods))))
  made_words = cc made_models

-- bytes that begin with sizes and have the length that they ask for
module _ (bytes : List ℕ) (fits : (i : ℕ) → get_or bytes i 0 < 256) (sizes : Sizes) (heads : Heads bytes sizes) (level : length bytes ≡ size_for sizes.models) where
  abbrev costs_in : List ℕ
  costs_in = words_at bytes 16 sizes.models

  abbrev periods_in : List ℕ
  periods_in = words_at bytes (16 + 4 * sizes.models) sizes.models

  costs_length : length costs_in ≡ sizes.models
  costs_length = length-map-range_with_len (λ i. word_at bytes (16 + 4 * i)) 0 sizes.models

  periods_length : length periods_in ≡ sizes.models
  periods_length = length-map-range_with_len (λ i. word_at bytes (16 + 4 * sizes.models + 4 * i)) 0 sizes.models

  words_stand : Row bytes 0 (length costs_in ∷ (sizes.workers ∷ (sizes.group_size ∷ (sizes.grain ∷ (costs_in ++ periods_in)))))
  words_stand =
      row_header bytes (length costs_in) sizes.workers sizes.group_size sizes.grain (costs_in ++ periods_in) (sym (costs_length ∙ heads.models')) (sym heads.workers') (sym heads.group') (sym heads.grain')
      (row_append bytes 16 costs_in periods_in sizes.models costs_length (read_row bytes 16 sizes.models) (read_row bytes (16 + 4 * sizes.models) sizes.models))

  made_file : (s : Set) → Made sizes.workers sizes.group_size sizes.grain costs_in periods_in s → bytes ≡ file_of s
  made_file s made =
      row_joined bytes (length costs_in ∷ (sizes.workers ∷ (sizes.group_size ∷ (sizes.grain ∷ (costs_in ++ periods_in))))) fits (omega (arith, length-append costs_in periods_in, costs_length, periods_length)) words_stand
      ∙ ap (flat_map word_bytes) (sym (made_words sizes.workers sizes.group_size sizes.grain costs_in periods_in (costs_length ∙ sym periods_length) s made))

  same_faults : about_file bytes ≡ about_figures sizes.workers sizes.group_size sizes.grain costs_in periods_in
  same_faults =
      past_header bytes sizes heads level
      ∙ sym (past_sizes sizes.workers sizes.group_size sizes.grain costs_in periods_in (costs_length ∙ sym periods_length) (ap (λ n. about_sizes n sizes.workers sizes.group_size sizes.grain) costs_length ∙ good_sizes sizes))

  reads_checked : (r : Result Set Refusal) → Answers (about_figures sizes.workers sizes.group_size sizes.grain costs_in periods_in) r (Made sizes.workers sizes.group_size sizes.grain costs_in periods_in) → Reads bytes r
  reads_checked (Ok s) answer = (same_faults ∙ answer.0, made_file s answer.1)
  reads_checked (Err e) answer = same_faults ∙ answer

  -- checking the figures that were read answers what reading the file does
  pub reads_figures : (costs periods : List ℕ) → costs ≡ costs_in → periods ≡ periods_in → (r : Result Set Refusal) → Answers (about_figures sizes.workers sizes.group_size sizes.grain costs periods) r (Made sizes.workers sizes.group_size sizes.grain costs periods) → Reads bytes r
  reads_figures costs periods e₁ e₂ r answer = reads_checked r (rw (e₁, e₂) at answer)
