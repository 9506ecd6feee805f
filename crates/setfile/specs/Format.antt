-- A set file, byte by byte.
use Rattle.std.specs.Prelude.{ℕ, ◌+◌, ◌*◌, ◌/◌, ◌%◌, List, [], ◌∷◌, ◌++◌, map, take, slice_index}
use Rattle.std.specs.List.{range_with_len, flat_map}
use Rattle.set.specs.declared.sets.Set.{Set}
use Rattle.set.specs.Sets.{models_of, worker_count_of, group_size_of, grain_of, costs_of, periods_of}

-- the four bytes of a word, the lowest first
abbrev pub word_bytes : ℕ → List ℕ
word_bytes word = word % 256 ∷ (word / 256 % 256 ∷ (word / 65536 % 256 ∷ (word / 16777216 % 256 ∷ [])))

-- the models, the workers, the group size, the grain, then all costs, then all periods
abbrev pub words_of : Set → List ℕ
words_of set =
    models_of set ∷ (worker_count_of set ∷ (group_size_of set ∷ (grain_of set ∷
    (take (models_of set) (costs_of set) ++ take (models_of set) (periods_of set)))))

abbrev pub file_of : Set → List ℕ
file_of set = flat_map word_bytes (words_of set)

-- the word whose lowest byte is at this place
abbrev pub word_at : List ℕ → ℕ → ℕ
word_at bytes at = slice_index bytes at + slice_index bytes (at + 1) * 256 + slice_index bytes (at + 2) * 65536 + slice_index bytes (at + 3) * 16777216

-- so many words, from this place on
abbrev pub words_at : List ℕ → ℕ → ℕ → List ℕ
words_at bytes at count = map (λ i. word_at bytes (at + 4 * i)) (range_with_len 0 count)
