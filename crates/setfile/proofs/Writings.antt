-- The bytes that are written for a set.
use Rattle.std.proofs.Common.{◌≡◌, ℕ, ◌+◌, ◌-◌, ◌*◌, ◌<◌, List, [], ◌∷◌, ◌++◌, length, get_or, map, replicate, take, drop, refl, sym, ap, ◌∙◌, zero-add, arith}
use Rattle.std.proofs.Math.Seq.{paste}
use borrow.Rule.Slice.PartMut.{put_mid}
use Rattle.std.specs.List.{flat_map}
use Rattle.std.proofs.lemmas.List.{append-nil, drop_all, length-take, take_all, take_at, take_more}
use Rattle.std.proofs.lemmas.List.Edits.{paste_all, paste-paste}
use Rattle.std.proofs.lemmas.Slice.{put_mid-paste}
use Rattle.std.proofs.lemmas.List.Folds.{flat_map-map}
use Rattle.std.proofs.lemmas.Grind.{flat_map-append}
use Rattle.set.specs.declared.sets.Set.{Set}
use Rattle.set.specs.declared.figures.Figures.{Figures}
use Rattle.set.specs.Sets.{models_of, worker_count_of, group_size_of, grain_of, costs_of, periods_of, MadeOf}
use Rattle.setfile.specs.Format.{word_bytes, file_of}
use Rattle.setfile.proofs.Bytes.{length_joined}

-- one more word is written
pub paste_word : (d ws : List ℕ) (i : ℕ) (place part : List ℕ) → i < length ws → part ≡ word_bytes (get_or ws i 0) → place ≡ paste d 0 (flat_map word_bytes (take i ws)) (4 * i) → put_mid (4 * i) (4 * i + 4 - 4 * i) place part ≡ paste d 0 (flat_map word_bytes (take (i + 1) ws)) (4 * (i + 1))
paste_word d ws i place part h e before =
    let more : 4 * (i + 1) ≡ 4 * i + 4 = omega arith in
    let front : 4 * i ≡ length (flat_map word_bytes (take i ws)) = simp (length_joined, length-take) (omega arith) in
    put_mid-paste (4 * i) (4 * i + 4 - 4 * i) place part (word_bytes (get_or ws i 0)) 4 e (omega arith) refl
    ∙ ap (λ b. paste b (4 * i) (word_bytes (get_or ws i 0)) 4) before
    ∙ ap (λ n. paste (paste d 0 (flat_map word_bytes (take i ws)) (4 * i)) n (word_bytes (get_or ws i 0)) 4) (sym (zero-add (4 * i)))
    ∙ paste-paste d 0 (flat_map word_bytes (take i ws)) (word_bytes (get_or ws i 0)) (4 * i) 4 front refl (omega arith)
    ∙ ap (λ s. paste d 0 s (4 * i + 4)) (sym (ap (flat_map word_bytes) (take_more ws i 0 h) ∙ flat_map-append word_bytes (take i ws) (get_or ws i 0 ∷ [])))
    ∙ ap (paste d 0 (flat_map word_bytes (take (i + 1) ws))) (sym more)

-- words that are written over the whole of a place
pub pasted : (d ws : List ℕ) (n : ℕ) → n ≡ length ws → length d ≡ 4 * length ws → paste d 0 (flat_map word_bytes (take n ws)) (4 * n) ≡ flat_map word_bytes ws
pasted d ws n e level =
    rw (e, take_all (length ws) ws (omega arith))
    (paste_all d 0 (flat_map word_bytes ws) (4 * length ws) (sym (length_joined ws))
    ∙ ap (λ n. flat_map word_bytes ws ++ drop n d) (zero-add (4 * length ws))
    ∙ ap (λ rest. flat_map word_bytes ws ++ rest) (drop_all (4 * length ws) d (omega arith))
    ∙ append-nil (flat_map word_bytes ws))

abbrev pub sizes_of : Set → List ℕ
sizes_of s = models_of s ∷ (worker_count_of s ∷ (group_size_of s ∷ (grain_of s ∷ [])))

-- the file of a set, by the bytes of its sizes and of each row of its figures
pub makes_file : (f : Figures) (s : Set) (sizes : List (List ℕ)) (a b c : List ℕ) → MadeOf f s → length f.costs.now ≡ length f.periods.now → sizes ≡ map word_bytes (sizes_of s) → a ≡ flat_map (λ x. x) sizes → b ≡ flat_map word_bytes f.costs.now → c ≡ flat_map word_bytes f.periods.now → a ++ (b ++ c) ≡ file_of s
makes_file f s sizes a b c made level are ea eb ec =
    let costs = f.costs.now in
    let periods = f.periods.now in
    let n = models_of s in
    let cost_row : take n (costs_of s) ≡ costs = ap (take n) made.costs' ∙ take_at costs (replicate (64 - length costs) 0) n (sym made.models) in
    let period_row : take n (periods_of s) ≡ periods = ap (take n) made.periods' ∙ take_at periods (replicate (64 - length periods) 0) n (sym (made.models ∙ level)) in
    let header : a ≡ flat_map word_bytes (sizes_of s) = ea ∙ ap (flat_map (λ x. x)) are ∙ flat_map-map (λ x. x) word_bytes (sizes_of s) in
    rw (header, eb, ec)
    (ap (λ bytes. flat_map word_bytes (sizes_of s) ++ bytes)
    (ap (λ row. flat_map word_bytes row ++ flat_map word_bytes periods) (sym cost_row)
    ∙ ap (λ row. flat_map word_bytes (take n (costs_of s)) ++ flat_map word_bytes row) (sym period_row)
    ∙ sym (flat_map-append word_bytes (take n (costs_of s)) (take n (periods_of s)))))
