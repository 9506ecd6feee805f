-- What is left of a heap as a thing rises or sinks through it, and that it is one again at the end.
-- `pre a b` says whether a precedes b; v has n things, and the travelling one stands at j.
-- std passes on the steps of a heap for a `cmp` alone, and an order here says only what precedes.
use Rattle.std.proofs.Common.{◌≡◌, ℕ, zero, suc, ◌+◌, ◌-◌, ◌*◌, ◌/◌, ◌<◌, ◌≤◌, Bool, true, false, List, length, get_or, take, set, sym, refl, ap, ◌∙◌, ⊎_elim, arith}
use Rattle.std.specs.List.{swap}
use Rattle.std.specs.Cmp.{IsStrictWeakOrder}
use Rattle.std.proofs.lemmas.List.{length-set, length-take-le, get_or-take, get_or-set_same, get_or-set_other, get_or_default}
use Rattle.std.proofs.lemmas.List.Elements.{All-from_get_or}
use Rattle.std.proofs.lemmas.List.Edits.{swapped_from_swap}
use Rattle.std.proofs.lemmas.Bool.{cases_eq}
use Rattle.queue.specs.Heaps.{Heaped, Unpreceded}
use Rattle.queue.specs.Sifting.{FirstChild}
use Rattle.queue.proofs.Holes.{hole_moves, off_hole}

module _ {X : Type 0} (pre : X → X → Bool) where
  -- no child of j precedes the parent of j
  abbrev Bridged : List X → ℕ → ℕ → Type 0
  Bridged v j n = (p k : ℕ) (d : X) → p * 2 + 1 ≤ j → j ≤ p * 2 + 2 → j * 2 + 1 ≤ k → k ≤ j * 2 + 2 → k < n → pre (get_or v k d) (get_or v p d) ≡ false

  -- heaped, but that the thing at j may precede its parent
  abbrev pub Rising : List X → ℕ → ℕ → Type 0
  Rising v j n =
      ((p k : ℕ) (d : X) → p * 2 + 1 ≤ k → k ≤ p * 2 + 2 → k < n → (k ≡ j → ⊥) → pre (get_or v k d) (get_or v p d) ≡ false)
      × Bridged v j n

  -- heaped, but that a child of j may precede the thing at j
  abbrev pub Sinking : List X → ℕ → ℕ → Type 0
  Sinking v j n =
      ((p k : ℕ) (d : X) → p * 2 + 1 ≤ k → k ≤ p * 2 + 2 → k < n → (p ≡ j → ⊥) → pre (get_or v k d) (get_or v p d) ≡ false)
      × Bridged v j n

  pub sink_ends : (v : List X) (j n : ℕ) → n ≤ j * 2 + 1 → Sinking v j n → Heaped pre v n
  sink_ends v j n l h = λ p k d a b f. h.0 p k d a b f (omega arith)

  module _ (o : IsStrictWeakOrder pre) where
    never : (x : X) (r : Bool) → pre x x ≡ r → r ≡ false
    never x true e = sym e ∙ o.one_way x x e
    never x false e = refl

    itself : (v : List X) (j k : ℕ) (d : X) → k ≡ j → pre (get_or v k d) (get_or v j d) ≡ false
    itself v j k d e = cc (never (get_or v j d) _ refl)

    -- the thing at j precedes its parent at u: they change places
    rise_steps : (v w : List X) (j u n : ℕ) → u * 2 + 1 ≤ j → j ≤ u * 2 + 2 → j < n → n ≤ length v → w ≡ swap v u j → ((d : X) → pre (get_or v j d) (get_or v u d) ≡ true) → Rising v j n → Rising w u n
    rise_steps v w j u n from to in' long is t h = (
      λ p k d a b f ne.
          let s = swapped_from_swap v w u j d (omega arith) (omega arith) is in
          let back = o.one_way _ _ (t d) in
          ⊎_elim
          (λ e. let q : p ≡ u = omega arith in cc)
          (λ nj. ⊎_elim
          (λ e. cc (s.2 k ne nj, o.chain _ _ _ (h.0 u k d (omega arith) (omega arith) f nj) back))
          (λ nu. ⊎_elim
          (λ e. cc (s.2 k ne nj, h.1 u k d from to (omega arith) (omega arith) f))
          (λ z. cc (s.2 k ne nj, s.2 p nu z, h.0 p k d a b f nj))
          (cases_eq p j))
          (cases_eq p u))
          (cases_eq k j),
      λ p k d a b f g i.
          let s = swapped_from_swap v w u j d (omega arith) (omega arith) is in
          let over = h.0 p u d a b (omega arith) (omega arith) in
          let same = s.2 p (omega arith) (omega arith) in
          ⊎_elim
          (λ e. cc)
          (λ nj. cc (s.2 k (omega arith) nj, o.chain _ _ _ (h.0 u k d f g i nj) over))
          (cases_eq k j),
    )

    -- a child at c precedes the thing at j, and no other child precedes that one: they change places
    sink_steps : (v w : List X) (j c n : ℕ) → n ≤ length v → w ≡ swap v c j → ((d : X) → pre (get_or v c d) (get_or v j d) ≡ true) → FirstChild pre v j n c → Sinking v j n → Sinking w c n
    sink_steps v w j c n long is t child h = (
      λ p k d a b f ne.
          let s = swapped_from_swap v w c j d (omega arith) (omega arith) is in
          ⊎_elim
          (λ e. ⊎_elim
          (λ u. cc (o.one_way _ _ (t d)))
          (λ u. cc (s.2 k u (omega arith), child.first k d (omega arith) (omega arith) f))
          (cases_eq k c))
          (λ nj. ⊎_elim
          (λ u. cc (s.2 p ne nj, h.1 p c d (omega arith) (omega arith) child.from child.to child.within))
          (λ u. cc (s.2 k (omega arith) u, s.2 p ne nj, h.0 p k d a b f nj))
          (cases_eq k j))
          (cases_eq p j),
      λ p k d a b f g' i.
          let s = swapped_from_swap v w c j d (omega arith) (omega arith) is in
          let q : p ≡ j = omega arith in
          cc (s.2 k (omega arith) (omega arith), h.0 c k d f g' i (omega arith)),
    )

    sink_rests : (v : List X) (j c n : ℕ) → ((d : X) → pre (get_or v c d) (get_or v j d) ≡ false) → FirstChild pre v j n c → Sinking v j n → Heaped pre v n
    sink_rests v j c n t child h = λ p k d a b f. ⊎_elim
        (λ e. cc (o.chain _ _ _ (child.first k d (omega arith) (omega arith) f) (t d)))
        (λ u. h.0 p k d a b f u) (cases_eq p j)

    -- the three ways to choose
    module _ (s : List X) (j n : ℕ) where
      pub only_child : j * 2 + 1 < n → n ≤ j * 2 + 1 + 1 → FirstChild pre s j n (j * 2 + 1)
      only_child l r = record { from = omega arith; to = omega arith; within = l; first = λ k z a b f. itself s (j * 2 + 1) k z (omega arith) }

      -- d and e are the defaults that the reads of the two children have
      module _ (d e : X) (l : j * 2 + 1 + 1 < n) (long : n ≤ length s) where
        read : (m k : ℕ) (y z : X) → k ≡ m → m < n → get_or s k z ≡ get_or s m y
        read m k y z is lt = ap (λ i. get_or s i z) is ∙ get_or_default s m z y (omega arith)

        pub left_child : false ≡ pre (get_or s (j * 2 + 1 + 1) e) (get_or s (j * 2 + 1) d) → FirstChild pre s j n (j * 2 + 1)
        left_child t = record {
          from = omega arith;
          to = omega arith;
          within = omega arith;
          first = λ k z a b f. ⊎_elim (itself s (j * 2 + 1) k z)
              (λ u. cc (read (j * 2 + 1 + 1) k e z (omega arith) l, read (j * 2 + 1) _ d z refl (omega arith)))
              (cases_eq k (j * 2 + 1));
        }

        pub right_child : true ≡ pre (get_or s (j * 2 + 1 + 1) e) (get_or s (j * 2 + 1) d) → FirstChild pre s j n (j * 2 + 1 + 1)
        right_child t = record {
          from = omega arith;
          to = omega arith;
          within = l;
          first = λ k z a b f. ⊎_elim (itself s (j * 2 + 1 + 1) k z)
              (λ u. cc (read (j * 2 + 1) k d z (omega arith) (omega arith), read (j * 2 + 1 + 1) _ e z refl l, o.one_way _ _ (sym t)))
              (cases_eq k (j * 2 + 1 + 1));
        }

    -- nothing precedes the thing at the top
    top : (v : List X) (n : ℕ) (d : X) → Heaped pre v n → (fuel k : ℕ) → k ≤ fuel → k < n → pre (get_or v k d) (get_or v 0 d) ≡ false
    top v n d h zero k a b = itself v 0 k d (omega arith)
    top v n d h (suc fuel) k a b = ⊎_elim (itself v 0 k d)
        (λ u. o.chain _ _ _ (h ((k - 1) / 2) k d (omega arith) (omega arith) b) (top v n d h fuel ((k - 1) / 2) (omega arith) (omega arith))) (cases_eq k 0)

    pub unpreceded : (v : List X) (n : ℕ) (d : X) → 0 < length v → n ≤ length v → Heaped pre v n → Unpreceded pre (take n v) (get_or v 0 d)
    unpreceded v n d l m h =
        let long : length (take n v) ≡ n = length-take-le n v m in
        All-from_get_or (λ y. pre y (get_or v 0 d) ≡ false) (take n v) d (λ i a. cc (get_or-take n v i d (omega arith), top v n d h i i (omega arith) (omega arith)))

    -- a turn of the way up; d is the default that the read of the parent has
    module _ (s : List X) (j n : ℕ) (x d : X) (low : 0 < j) (high : j ≤ n) (long : n < length s) where
      pub rise_turn : true ≡ pre x (get_or s ((j - 1) / 2) d) → Rising (set s j x) j (n + 1) → Rising (set (set s j (get_or s ((j - 1) / 2) d)) ((j - 1) / 2) x) ((j - 1) / 2) (n + 1)
      rise_turn t h = rise_steps (set s j x) _ j ((j - 1) / 2) (n + 1) (omega arith) (omega arith) (omega arith) (omega (arith, length-set s j x))
          (hole_moves s j ((j - 1) / 2) x d (omega arith) (omega arith) (omega arith))
          (λ z. cc (get_or-set_same s j x z (omega arith), off_hole s j ((j - 1) / 2) x d z (omega arith) (omega arith))) h

    -- a turn of the way down, to the first child, at c; d is the default that its read has
    module _ (s : List X) (j c n : ℕ) (x d : X) (long : n < length s) (child : FirstChild pre s j n c) where
      low : j * 2 + 1 ≤ c
      low = child.from

      inside : c < n
      inside = child.within

      beside : FirstChild pre (set s j x) j n c
      beside = let from = low in record {
        from = child.from;
        to = child.to;
        within = child.within;
        first = λ k z a b f. cc (get_or-set_other s j k x z (omega arith), get_or-set_other s j c x z (omega arith), child.first k z a b f);
      }

      pub sink_turn : true ≡ pre (get_or s c d) x → Sinking (set s j x) j n → Sinking (set (set s j (get_or s c d)) c x) c n
      sink_turn t h = let from = low in let within = inside in sink_steps (set s j x) _ j c n (omega (arith, length-set s j x))
          (hole_moves s j c x d (omega arith) (omega arith) (omega arith))
          (λ z. cc (off_hole s j c x d z (omega arith) (omega arith), get_or-set_same s j x z (omega arith))) beside h

      pub sink_stops : false ≡ pre (get_or s c d) x → Sinking (set s j x) j n → Heaped pre (set s j x) n
      sink_stops t h = let from = low in let within = inside in sink_rests (set s j x) j c n
          (λ z. cc (off_hole s j c x d z (omega arith) (omega arith), get_or-set_same s j x z (omega arith))) beside h
