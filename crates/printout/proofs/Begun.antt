-- A text that is written piece after piece.
use Rattle.std.proofs.Common.{◌≡◌, ℕ, suc, ◌+◌, ◌<◌, ◌≤◌, List, [], ◌∷◌, ◌++◌, length, get_or, drop, append-nil, refl, sym, ap, ◌∙◌, arith}
use Rattle.std.proofs.Math.Seq.{drop-cons}
use Rattle.std.proofs.lemmas.List.{append_assoc, length-append, drop_all}
use Rattle.std.specs.List.{flat_map}
use Rattle.printout.specs.declared.page.Page.{Page}
use Rattle.printout.specs.Pages.{Fits, Appends}
use Rattle.printout.proofs.Pages.{room_left, appends_same, appends_append, appends_none}

-- q is p with the text but for its rest
pub record Begun (p : Page) (text rest : List ℕ) (q : Page) : Type 0 where
  pub done : List ℕ
  pub appends : Appends p done q
  pub whole : done ++ rest ≡ text

module _ {p : Page} where
  pub begun : (rest : List ℕ) {s : List ℕ} {q : Page} → Appends p s q → Begun p (s ++ rest) rest q
  begun rest {s} a = record { done = s; appends = a; whole = refl }

  pub begun_none : {text : List ℕ} → Fits p text → Begun p text text p
  begun_none {text} fits = record { done = []; appends = appends_none p (omega (arith, fits)); whole = refl }

  module _ {text : List ℕ} where
    -- nothing is left
    pub begun_end : {q : Page} → Begun p text [] q → Appends p text q
    begun_end {q} b = appends_same p q b.done text (sym (append-nil b.done) ∙ b.whole) b.appends

    pub begun_as : {rest rest' : List ℕ} {q : Page} → rest ≡ rest' → Begun p text rest q → Begun p text rest' q
    begun_as same b = record { done = b.done; appends = b.appends; whole = ap (λ rest. b.done ++ rest) (sym same) ∙ b.whole }

    module _ (rest : List ℕ) {q : Page} where
      pub begun_more : {s : List ℕ} {r : Page} → Begun p text (s ++ rest) q → Appends q s r → Begun p text rest r
      begun_more {s} {r} b a = record {
        done = b.done ++ s;
        appends = appends_append p q r b.done s b.appends a;
        whole = append_assoc b.done s rest ∙ b.whole;
      }

      pub begun_fits : (s : List ℕ) → Fits p text → Begun p text (s ++ rest) q → Fits q s
      begun_fits s fits b =
          let all : length b.done + (length s + length rest) ≡ length text = sym (length-append b.done (s ++ rest) ∙ ap (λ n. length b.done + n) (length-append s rest)) ∙ ap length b.whole in
          room_left p q b.done (length s) b.appends (omega arith)

    -- the last piece
    module _ (s : List ℕ) {q : Page} (b : Begun p text s q) where
      one_left : Begun p text (s ++ []) q
      one_left = begun_as (sym (append-nil s)) b

      pub last_fits : Fits p text → Fits q s
      last_fits fits = begun_fits [] s fits one_left

      pub begun_all : {r : Page} → Appends q s r → Appends p text r
      begun_all a = begun_end (begun_more [] one_left a)

-- a text for each element, and an end: those of the elements from i on are left
module _ {X : Type 0} (f : X → List ℕ) (end : List ℕ) (xs : List X) (i : ℕ) where
  each_next : (d : X) → i < length xs → flat_map f (drop i xs) ++ end ≡ f (get_or xs i d) ++ (flat_map f (drop (i + 1) xs) ++ end)
  each_next d more =
      let next : suc i ≡ i + 1 = omega arith in
      ap (λ (ys : List X). flat_map f ys ++ end) (drop-cons xs i d more ∙ ap (λ n. get_or xs i d ∷ drop n xs) next) ∙ append_assoc (f (get_or xs i d)) (flat_map f (drop (i + 1) xs)) end

  module _ {p q : Page} {text : List ℕ} where
    pub each_fits : (d : X) → i < length xs → Fits p text → Begun p text (flat_map f (drop i xs) ++ end) q → Fits q (f (get_or xs i d))
    each_fits d more fits b = begun_fits (flat_map f (drop (i + 1) xs) ++ end) (f (get_or xs i d)) fits (begun_as (each_next d more) b)

    pub each_more : (d : X) → i < length xs → Begun p text (flat_map f (drop i xs) ++ end) q → {r : Page} → Appends q (f (get_or xs i d)) r → Begun p text (flat_map f (drop (i + 1) xs) ++ end) r
    each_more d more b a = begun_more (flat_map f (drop (i + 1) xs) ++ end) (begun_as (each_next d more) b) a

    pub each_end : length xs ≤ i → Begun p text (flat_map f (drop i xs) ++ end) q → Begun p text end q
    each_end none b = begun_as (ap (λ (ys : List X). flat_map f ys ++ end) (drop_all i xs none)) b
