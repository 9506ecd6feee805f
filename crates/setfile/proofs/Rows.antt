-- Words that stand in a row in some bytes.
use Rattle.std.proofs.Common.{◌≡◌, ℕ, zero, suc, ◌+◌, ◌-◌, ◌*◌, ◌^◌, ◌<◌, ◌≤◌, List, [], ◌∷◌, ◌++◌, length, get_or, take, drop, set as put, sym, ap, ◌∙◌, ⊎_elim, add_assoc, arith, w32}
use Rattle.std.specs.Int.{from_le_bytes}
use Rattle.std.specs.Simd.{first_chunks}
use Rattle.std.specs.List.{flat_map, AllByRecursion}
use Rattle.std.proofs.lemmas.Nat.{from_le_bytes-to_le_bytes_4}
use Rattle.std.proofs.lemmas.Bool.{cases_eq}
use Rattle.std.proofs.lemmas.Grind.{common_steps}
use Rattle.std.proofs.lemmas.List.{length-take, get_or-set_same, get_or-set_other, length-drop, get_or-drop, get_or-take, length-take-le, nil_from_length, take-append-drop}
use Rattle.std.proofs.lemmas.List.FromFn.{get_or-map-range_with_len, length-map-range_with_len, fill_by_all}
use Rattle.setfile.specs.Format.{word_bytes, word_at, words_at}
use Rattle.setfile.proofs.Bytes.{word_spelled}

-- the words stand in the bytes from this place on
abbrev pub Row : List ℕ → ℕ → List ℕ → Type 0
Row bytes at ws = (i : ℕ) → i < length ws → word_at bytes (at + 4 * i) ≡ get_or ws i 0

word_at-drop : (bytes : List ℕ) (n at : ℕ) → word_at (drop n bytes) at ≡ word_at bytes (n + at)
word_at-drop bytes n at = grind (arith, common_steps)

-- the words of the bytes taken by four
pub word_at-first_chunks : (bytes : List ℕ) (n i : ℕ) → i < n → from_le_bytes w32 (get_or (first_chunks 4 n bytes) i []) ≡ word_at bytes (4 * i)
word_at-first_chunks bytes zero i h = absurd (omega arith)
word_at-first_chunks bytes (suc n) zero h = grind (arith, common_steps)
word_at-first_chunks bytes (suc n) (suc i) h =
    let t = word_at-first_chunks (drop 4 bytes) n i (omega arith) in grind (arith, word_at-drop)

-- one word more is read
pub word_more : (bytes : List ℕ) (n most i : ℕ) (chunks : List (List ℕ)) (ws : List ℕ) (w : ℕ) → chunks ≡ first_chunks 4 n bytes → length chunks ≡ n → i < length (take most chunks) → i < length ws → w ≡ from_le_bytes w32 (get_or (take most chunks) i []) → ((k : ℕ) → k < i → get_or ws k 0 ≡ word_at bytes (4 * k)) → (k : ℕ) → k < i + 1 → get_or (put ws i w) k 0 ≡ word_at bytes (4 * k)
word_more bytes n most i chunks ws w are long within few is so-far k h =
    ⊎_elim
    (λ (same : k ≡ i). rw same (get_or-set_same ws i w 0 few ∙ here))
    (λ (ne : k ≡ i → ⊥). get_or-set_other ws i k w 0 ne ∙ so-far k (omega arith))
    (cases_eq k i)
  where
    low : (i < most) × (i < n)
    low = let e = length-take most chunks in (omega arith, omega arith)

    here : w ≡ word_at bytes (4 * i)
    here = is ∙ ap (from_le_bytes w32) (get_or-take most chunks i [] low.0 ∙ ap (λ cs. get_or cs i []) are) ∙ word_at-first_chunks bytes n i low.1

module _ (bytes : List ℕ) (at : ℕ) where
  pub row_cons : (w : ℕ) (ws : List ℕ) → word_at bytes at ≡ w → Row bytes (at + 4) ws → Row bytes at (w ∷ ws)
  row_cons w ws here rest zero h = ap (word_at bytes) (omega arith) ∙ here
  row_cons w ws here rest (suc i) h =
      let next : at + 4 * suc i ≡ at + 4 + 4 * i = omega arith in
      ap (word_at bytes) next ∙ rest i (omega arith)

  pub row_append : (xs ys : List ℕ) (n : ℕ) → length xs ≡ n → Row bytes at xs → Row bytes (at + 4 * n) ys → Row bytes at (xs ++ ys)
  row_append xs ys n e front rest i h = grind (arith, common_steps, front i, rest (i - n))

  pub row_front : (xs ys : List ℕ) → Row bytes at (xs ++ ys) → Row bytes at xs
  row_front xs ys row i h = grind (arith, common_steps, row i)

  pub row_rest : (xs ys : List ℕ) (n : ℕ) → length xs ≡ n → Row bytes at (xs ++ ys) → Row bytes (at + 4 * n) ys
  row_rest xs ys n e row i h = grind (arith, common_steps, row (n + i))

  -- what is read in a row stands there, and nothing else does
  pub read_row : (n : ℕ) → Row bytes at (words_at bytes at n)
  read_row n i h = grind (arith, get_or-map-range_with_len, length-map-range_with_len)

  pub row_read : (ws : List ℕ) (n : ℕ) → length ws ≡ n → Row bytes at ws → words_at bytes at n ≡ ws
  row_read ws n level row =
      sym (fill_by_all (λ i. word_at bytes (at + 4 * i)) ws n 0 level (λ i h. sym (row i (omega arith))))

word_at-take : (bytes : List ℕ) (cut at : ℕ) → at + 4 ≤ cut → word_at (take cut bytes) at ≡ word_at bytes at
word_at-take bytes cut at h = grind (arith, common_steps)

-- the first n of the words that are read from this place on, up to a cut behind them, are those that stand there
pub words_read : (bytes : List ℕ) (at n most cut : ℕ) (ws : List ℕ) → let rest = take cut (drop at bytes) in ((i : ℕ) → i < most → 4 * i + 4 ≤ length rest → get_or ws i 0 ≡ word_at rest (4 * i)) → n ≤ most → n ≤ length ws → 4 * n ≤ cut → at + 4 * n ≤ length bytes → take n ws ≡ words_at bytes at n
words_read bytes at n most cut ws each fewer few before within =
    fill_by_all (λ i. word_at bytes (at + 4 * i)) (take n ws) n 0 (length-take-le n ws few)
    (λ i h.
    get_or-take n ws i 0 h
    ∙ each i (omega arith) (omega (arith, length-take cut (drop at bytes), length-drop at bytes))
    ∙ word_at-take (drop at bytes) cut (4 * i) (omega arith)
    ∙ word_at-drop bytes at (4 * i))

pub row_header : (bytes : List ℕ) (a b c d : ℕ) (ws : List ℕ) → word_at bytes 0 ≡ a → word_at bytes 4 ≡ b → word_at bytes 8 ≡ c → word_at bytes 12 ≡ d → Row bytes 16 ws → Row bytes 0 (a ∷ (b ∷ (c ∷ (d ∷ ws))))
row_header bytes a b c d ws ea eb ec ed rest =
    row_cons bytes 0 a (b ∷ (c ∷ (d ∷ ws))) ea
    (row_cons bytes 4 b (c ∷ (d ∷ ws)) eb (row_cons bytes 8 c (d ∷ ws) ec (row_cons bytes 12 d ws ed rest)))

row_drop : (bytes : List ℕ) (n at : ℕ) (ws : List ℕ) → Row (drop n bytes) at ws → Row bytes (n + at) ws
row_drop bytes n at ws row i h =
    ap (word_at bytes) (add_assoc n at (4 * i)) ∙ sym (word_at-drop bytes n (at + 4 * i)) ∙ row i h

-- words that fit stand where they were written
pub joined_row : (ws : List ℕ) → AllByRecursion (λ w. w < 2 ^ 32) ws → Row (flat_map word_bytes ws) 0 ws
joined_row [] fits = λ i h. absurd (omega arith)
joined_row (w ∷ ws) fits =
    row_cons (flat_map word_bytes (w ∷ ws)) 0 w ws (from_le_bytes-to_le_bytes_4 w fits.0)
    (row_drop (flat_map word_bytes (w ∷ ws)) 4 0 ws (joined_row ws fits.1))

-- bytes that fit are just the words that stand in them
pub row_joined : (bytes ws : List ℕ) → ((i : ℕ) → get_or bytes i 0 < 256) → length bytes ≡ 4 * length ws → Row bytes 0 ws → bytes ≡ flat_map word_bytes ws
row_joined bytes [] fits level row = nil_from_length bytes level
row_joined bytes (w ∷ ws) fits level row =
    sym (take-append-drop 4 bytes)
    ∙ ap (λ xs. xs ++ drop 4 bytes) (sym (word_spelled bytes 0 (omega arith) (fits 0) (fits 1) (fits 2) (fits 3)) ∙ ap word_bytes (row 0 (omega arith)))
    ∙ ap (λ xs. word_bytes w ++ xs) (row_joined (drop 4 bytes) ws fits' (omega (arith, length-drop 4 bytes)) row')
  where
    fits' : (i : ℕ) → get_or (drop 4 bytes) i 0 < 256
    fits' i = rw get_or-drop (fits (4 + i))

    row' : Row (drop 4 bytes) 0 ws
    row' i h =
        let next : 4 + (0 + 4 * i) ≡ 0 + 4 * suc i = omega arith in
        word_at-drop bytes 4 (0 + 4 * i) ∙ ap (word_at bytes) next ∙ row (suc i) (omega arith)
