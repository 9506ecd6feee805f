-- Lists in order that have just the things of one kind.
use Rattle.std.proofs.Common.{◌≡◌, zero, suc, List, [], ◌∷◌, ◌++◌, length, take, ◌⊎◌, inl, inr, refl, sym, ◌∙◌, subst, ⊎_elim, ap, length-take, arith}
use Rattle.std.proofs.Math.Logic.{⊎_map}
use Rattle.std.specs.List.{All, AllPairs, Contains}
use Rattle.std.proofs.lemmas.List.{take_all}
use Rattle.std.proofs.lemmas.List.Elements.{All-nil, All-cons, All-head, All-tail, All-append, All-weaker, All-contains, Contains-append_left, Contains-append_right}
use Rattle.std.proofs.lemmas.List.Kept.{AllPairs-cons}
use Rattle.std.proofs.lemmas.Map.Made.{Contains-tail}
use Rattle.dates.specs.Agendas.{IsListOf}

module _ {X : Type 0} (R : X → X → Type 0) where
  AllPairs-head : (x : X) (xs : List X) → AllPairs R (x ∷ xs) → All (R x) xs
  AllPairs-head x xs h k d l = h 0 (suc k) d (omega arith) (omega arith)

  AllPairs-tail : (x : X) (xs : List X) → AllPairs R (x ∷ xs) → AllPairs R xs
  AllPairs-tail x xs h i j d l m = h (suc i) (suc j) d (omega arith) (omega arith)

  AllPairs-append : (xs ys : List X) → AllPairs R xs → AllPairs R ys → All (λ x. All (R x) ys) xs → AllPairs R (xs ++ ys)
  AllPairs-append [] ys p q b = q
  AllPairs-append (x ∷ xs) ys p q b = AllPairs-cons R x (xs ++ ys) (All-append (R x) xs ys (AllPairs-head x xs p) (All-head (λ x. All (R x) ys) x xs b)) (AllPairs-append xs ys (AllPairs-tail x xs p) q (All-tail (λ x. All (R x) ys) x xs b))

  pub IsListOf-nil : (P : X → Type 0) → ((x : X) → P x → ⊥) → IsListOf R P []
  IsListOf-nil P none = record {
    in_order = λ i j d l m. absurd (omega arith);
    only = All-nil P;
    all = λ x p. absurd (none x p);
  }

  -- y comes before what is of P, and together they are what is of S
  pub IsListOf-cons : (P S : X → Type 0) (y : X) (xs : List X) → IsListOf R P xs → S y → ((x : X) → P x → R y x) → ((x : X) → P x → S x) → ((x : X) → S x → (y ≡ x) ⊎ P x) → IsListOf R S (y ∷ xs)
  IsListOf-cons P S y xs h s before right split = record {
    in_order = AllPairs-cons R y xs (All-weaker P (R y) before xs h.only) h.in_order;
    only = All-cons S y xs s (All-weaker P S right xs h.only);
    all = λ x s. ⊎_elim (λ e. (0, omega arith, e)) (λ p. Contains-append_right (y ∷ []) xs x (h.all x p)) (split x s);
  }

  -- what is of P comes before what is of Q, and together they are what is of S
  pub IsListOf-append : (P Q S : X → Type 0) (xs ys : List X) → IsListOf R P xs → IsListOf R Q ys → ((x y : X) → P x → Q y → R x y) → ((x : X) → P x → S x) → ((x : X) → Q x → S x) → ((x : X) → S x → P x ⊎ Q x) → IsListOf R S (xs ++ ys)
  IsListOf-append P Q S xs ys h k before left right split = record {
    in_order = AllPairs-append xs ys h.in_order k.in_order (All-weaker P (λ x. All (R x) ys) (λ x p. All-weaker Q (R x) (λ y. before x y p) ys k.only) xs h.only);
    only = All-append S xs ys (All-weaker P S left xs h.only) (All-weaker Q S right ys k.only);
    all = λ x s. ⊎_elim (λ p. Contains-append_left xs ys x (h.all x p)) (λ q. Contains-append_right xs ys x (k.all x q)) (split x s);
  }

  module _ (apart : (x y : X) → R x y → R y x → ⊥) where
    differ : (x y : X) → R x y → x ≡ y → ⊥
    differ x y r e = let s : R x x = subst (R x) (sym e) r in apart x x s s

    reached : (x : X) (xs : List X) (y : X) → AllPairs R (x ∷ xs) → Contains (x ∷ xs) y → (x ≡ y) ⊎ R x y
    reached x xs y h (zero, l, e) = inl e
    reached x xs y h (suc k, l, e) = inr (subst (R x) e (h 0 (suc k) y (omega arith) l))

    same_head : (x : X) (xs : List X) (y : X) (ys : List X) → AllPairs R (x ∷ xs) → AllPairs R (y ∷ ys) → Contains (y ∷ ys) x → Contains (x ∷ xs) y ⊎ R x y → x ≡ y
    same_head x xs y ys p q c rest = elim (reached y ys x q c) [
      | inl e ↦ sym e
      | inr r ↦ ⊎_elim (λ e. e) (λ s. absurd (apart x y s r)) (⊎_elim (reached x xs y p) inr rest)
    ]

    begins_by : (xs ys : List X) → AllPairs R xs → AllPairs R ys → All (Contains ys) xs → ((y : X) → Contains ys y → Contains xs y ⊎ All (λ x. R x y) xs) → take (length xs) ys ≡ xs
    begins_by [] ys p q within rest = refl
    begins_by (x ∷ xs) [] p q within rest = absurd (omega (arith, (All-head (Contains []) x xs within).1))
    begins_by (x ∷ xs) (y ∷ ys) p q within rest =
        let same : x ≡ y = same_head x xs y ys p q (All-head (Contains (y ∷ ys)) x xs within) (⊎_map (λ c. c) (All-head (λ x. R x y) x xs) (rest y (0, omega arith, refl))) in
        let tails = begins_by xs ys (AllPairs-tail x xs p) (AllPairs-tail y ys q)
        (λ k d l. Contains-tail y ys _ (λ e. differ x _ (AllPairs-head x xs p k d l) (same ∙ e)) (All-tail (Contains (y ∷ ys)) x xs within k d l))
        (λ z c. ⊎_map (Contains-tail x xs z (λ e. differ y z (All-contains (R y) ys z (AllPairs-head y ys q) c) (sym same ∙ e))) (All-tail (λ x. R x z) x xs) (rest z (Contains-append_right (y ∷ []) ys z c))) in
        cc

    module _ (P : X → Type 0) where
      -- xs is how ys begins, if each thing of P is in xs or behind all of it
      pub begins : (xs ys : List X) → AllPairs R xs → All P xs → ((y : X) → P y → Contains xs y ⊎ All (λ x. R x y) xs) → IsListOf R P ys → take (length xs) ys ≡ xs
      begins xs ys p only rest h = begins_by xs ys p h.in_order (λ k d l. h.all _ (only k d l)) (λ y c. rest y (All-contains P ys y h.only c))

      -- no other list does
      pub same : (xs ys : List X) → IsListOf R P xs → IsListOf R P ys → xs ≡ ys
      same xs ys h k =
          let front = begins xs ys h.in_order h.only (λ y p. inl (h.all y p)) k in
          let back = begins ys xs k.in_order k.only (λ y p. inl (k.all y p)) h in
          sym front ∙ take_all (length xs) ys (omega (arith, ap length back, length-take (length ys) xs))
