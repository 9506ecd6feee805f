-- How long the parts of a text are, but for the groups.
use Rattle.std.proofs.Common.{◌≡◌, ℕ, zero, suc, ◌+◌, ◌*◌, ◌/◌, ◌%◌, ◌^◌, ◌<◌, ◌≤◌, Bool, true, false, eqb, List, [], ◌∷◌, ◌++◌, length, get_or, codes, decimal, ap, ⊎_elim, le_trans, zero-add, arith, lit≤}
use Rattle.std.specs.List.{range_with_len, flat_map}
use Rattle.std.specs.Fmt.{digits, digits_onto, digit_glyph}
use Rattle.std.proofs.lemmas.List.FromFn.{length-range_with_len, get_or-range_with_len}
use Rattle.std.proofs.ByRecursion.{All-from_get_or}
use Rattle.std.proofs.lemmas.List.{length-append}
use Rattle.std.proofs.lemmas.Bool.{cases_Bool, cond-true, cond-false}
use Rattle.refusal.specs.declared.Refusal.{Refusal}
use Rattle.refusal.specs.declared.Layer.{Layer}
use Rattle.refusal.specs.declared.Layer.TheVariants.{File, Set, Placement, Opening, Running, Calendar, Agenda}
use Rattle.refusal.specs.Refusals.{number_of, word_of, refusal_words}
use Rattle.set.proofs.Weights.{weighs}
use Rattle.plan.specs.declared.pieces.Pieces.{Pieces}
use Rattle.plan.specs.declared.pieces.Pieces.TheVariants.{Whole, Divided}
use Rattle.plan.specs.declared.plans.Plan.{Plan}
use Rattle.plan.specs.Shares.{last_of, first_of, second_of, pieces_at}
use Rattle.printout.specs.Lines.{line_of}
use Rattle.printout.specs.Texts.{refusal_text, pieces_text, sizes_text, load_text, loads_text, model_text, models_text}
use Rattle.printout.proofs.Lengths.{length_joined_le, length_line_le}

-- no number has more than 64 digits as it is written
spelled_most : (k base : ℕ) (upper : Bool) (n : ℕ) (acc : List ℕ) → length (digits_onto k base upper n acc) ≤ k + length acc
spelled_most zero base upper n acc = omega arith
spelled_most (suc k) base upper n acc =
    ⊎_elim
    (λ (last : eqb (n / base) 0 ≡ true). rw (cond-true (eqb (n / base) 0) (digit_glyph upper (n % base) ∷ acc) (digits_onto k base upper (n / base) (digit_glyph upper (n % base) ∷ acc)) last) (omega arith))
    (λ (more : eqb (n / base) 0 ≡ false). rw (cond-false (eqb (n / base) 0) (digit_glyph upper (n % base) ∷ acc) (digits_onto k base upper (n / base) (digit_glyph upper (n % base) ∷ acc)) more) (omega (arith, spelled_most k base upper (n / base) (digit_glyph upper (n % base) ∷ acc))))
    (cases_Bool (eqb (n / base) 0))

decimal_most : (n : ℕ) → length (decimal n) ≤ 64
unfolding digits
decimal_most n = spelled_most 64 10 false n []

word_most : (l : Layer) → length (word_of l) ≤ 9
word_most File = omega arith
word_most Set = omega arith
word_most Placement = omega arith
word_most Opening = omega arith
word_most Running = omega arith
word_most Calendar = omega arith
word_most Agenda = omega arith

append_most : (s t : List ℕ) (a b : ℕ) → length s ≤ a → length t ≤ b → length (s ++ t) ≤ a + b
append_most s t a b h k = omega (arith, length-append s t)

pub refusal_most : (e : Refusal) → length (refusal_text e) ≤ 16384
refusal_most e =
    let number = decimal (number_of e.fault) in
    let word = word_of e.layer in
    let place = decimal e.place in
    let all : length (refusal_text e) ≤ 8 + 64 + 1 + 9 + 1 + 64 + 1 =
    append_most (refusal_words e) (10 ∷ []) (8 + 64 + 1 + 9 + 1 + 64) 1
    (append_most (codes "refused " ++ number ++ codes " " ++ word ++ codes " ") place (8 + 64 + 1 + 9 + 1) 64
    (append_most (codes "refused " ++ number ++ codes " " ++ word) (codes " ") (8 + 64 + 1 + 9) 1
    (append_most (codes "refused " ++ number ++ codes " ") word (8 + 64 + 1) 9
    (append_most (codes "refused " ++ number) (codes " ") (8 + 64) 1
    (append_most (codes "refused ") number 8 64 (omega arith) (decimal_most (number_of e.fault))) (omega arith)) (word_most e.layer)) (omega arith)) (decimal_most e.place)) (omega arith) in
    le_trans all (lit≤ tt)

each_most : (f : ℕ → List ℕ) (c n : ℕ) → ((i : ℕ) → i < n → length (f i) ≤ c) → length (flat_map f (range_with_len 0 n)) ≤ c * n
each_most f c n each =
    let bound = length_joined_le f c (range_with_len 0 n) (All-from_get_or (λ x. length (f x) ≤ c) (range_with_len 0 n) 0 (λ i h. at i (omega (arith, length-range_with_len 0 n)))) in
    omega (arith, ap (λ x. c * x) (length-range_with_len 0 n))
  where
    at : (i : ℕ) → i < n → length (f (get_or (range_with_len 0 n) i 0)) ≤ c
    at i h = rw (get_or-range_with_len 0 n i 0 h, zero-add i) (each i h)

module _ (plan : Plan) where
  pub sizes_most : length (sizes_text plan) ≤ 33
  sizes_most =
      let s = plan.set.sizes in
      length_line_le 6 (codes "plan") (s.models ∷ (s.workers ∷ (s.group_size ∷ (s.grain ∷ [])))) (omega arith) (lit≤ tt)
      (omega arith, (omega arith, (omega arith, (omega arith, tt))))

  load_most : (p : ℕ) → p < plan.set.sizes.workers → length (load_text plan p) ≤ 19
  load_most p h =
      let few = plan.set.sizes.few_workers in
      let small = plan.set.sizes.small_grain in
      let load = (plan.loaded p (omega arith)).1 in
      length_line_le 6 (codes "load") ((p + 1) ∷ (get_or plan.loads p 0 ∷ [])) (omega arith) (lit≤ tt) (omega arith, (omega arith, tt))

  piece_most : (model worker size : ℕ) → model < 10 ^ 6 → worker < 10 ^ 6 → size < 10 ^ 6 → length (line_of (codes "piece") (model ∷ (worker ∷ (size ∷ [])))) ≤ 27
  piece_most model worker size a b c = length_line_le 6 (codes "piece") (model ∷ (worker ∷ (size ∷ []))) (omega arith) (lit≤ tt) (a, (b, (c, tt)))

  pieces_most : (model : ℕ) (x : Pieces) → model ≤ 64 → last_of x ≤ 32 → first_of x + second_of x ≤ 100800 → length (pieces_text model x) ≤ 54
  pieces_most model (Whole worker size) few within fits = le_trans (piece_most model worker size (omega arith) (omega arith) (omega arith)) (lit≤ tt)
  pieces_most model (Divided worker first second) few within fits =
      append_most (line_of (codes "piece") (model ∷ (worker ∷ (first ∷ [])))) (line_of (codes "piece") (model ∷ ((worker + 1) ∷ (second ∷ [])))) 27 27
      (piece_most model worker first (omega arith) (omega arith) (omega arith)) (piece_most model (worker + 1) second (omega arith) (omega arith) (omega arith))

  model_most : (i : ℕ) → i < plan.set.sizes.models → length (model_text plan i) ≤ 54
  model_most i h =
      let few = plan.set.sizes.few_models in
      let few-workers = plan.set.sizes.few_workers in
      let small = plan.set.sizes.small_grain in
      let share = plan.shared i h in
      let weight = (weighs plan.set i h).fits in
      pieces_most (i + 1) (pieces_at plan.pieces i) (omega arith) (omega (arith, share.1)) (omega (arith, share.2))

  pub loads_most : length (loads_text plan) ≤ 608
  loads_most = let few = plan.set.sizes.few_workers in omega (arith, each_most (load_text plan) 19 plan.set.sizes.workers load_most)

  pub models_most : length (models_text plan) ≤ 3456
  models_most = let few = plan.set.sizes.few_models in omega (arith, each_most (model_text plan) 54 plan.set.sizes.models model_most)
