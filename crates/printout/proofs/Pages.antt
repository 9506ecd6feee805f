-- One text after another on a page.
use Rattle.std.proofs.Common.{◌≡◌, ℕ, ◌+◌, ◌≤◌, List, [], ◌++◌, length, take, drop, take-append-drop, sym, ap, ◌∙◌, subst, refl, arith}
use Rattle.std.proofs.lemmas.List.{append_assoc, length-append, length-take-le, length-drop, take_at, drop_at, drop-drop}
use Rattle.printout.specs.declared.page.Page.{Page}
use Rattle.printout.specs.Pages.{memory, HasRoom, Appends}

-- what is written is just the text; behind it the memory is as it was when it held old
pub record Holds (text old : List ℕ) (p : Page) : Type 0 where
  pub fits : length text ≤ length old
  pub all : p.len ≡ length text
  pub front : memory p ≡ text ++ drop (length text) old

-- a text over the memory behind a front of n bytes
over_behind : (front rest text : List ℕ) (n : ℕ) → length front ≡ n → take n (front ++ rest) ++ (text ++ drop (n + length text) (front ++ rest)) ≡ (front ++ text) ++ drop (length text) rest
over_behind front rest text n is =
    let kept = take_at front rest n is in
    let left = sym (drop-drop (length text) n (front ++ rest)) ∙ ap (drop (length text)) (drop_at front rest n is) in
    (λ k. kept k ++ (text ++ left k)) ∙ sym (append_assoc front text (drop (length text) rest))

pub same_room : (p q : Page) (s : List ℕ) → Appends p s q → length (memory q) ≡ length (memory p)
same_room p q s h =
    let m = memory p in
    let n = p.len in
    let fits : n + length s ≤ length m = h.fits in
    ap length h.after ∙ simp (length-append, length-drop) (omega (arith, length-take-le n m (omega arith)))

-- what has room beside a text has room behind it
pub room_left : (p q : Page) (s : List ℕ) (k : ℕ) → Appends p s q → p.len + length s + k ≤ length (memory p) → q.len + k ≤ length (memory q)
room_left p q s k h fits =
    let same = same_room p q s h in
    let longer : q.len ≡ p.len + length s = h.longer in
    omega arith

-- room behind a text that is not too long
pub room_behind : (p q : Page) (s : List ℕ) (n k : ℕ) → HasRoom p (n + k) → length s ≤ n → Appends p s q → HasRoom q k
room_behind p q s n k room short h = room_left p q s k h (omega (arith, room))

pub appends_same : (p q : Page) (s t : List ℕ) → s ≡ t → Appends p s q → Appends p t q
appends_same p q s t e h = subst (λ (text : List ℕ). Appends p text q) e h

pub appends_append : (p q r : Page) (s t : List ℕ) → Appends p s q → Appends q t r → Appends p (s ++ t) r
appends_append p q r s t g h =
    let m = memory p in
    let n = p.len in
    let both = length-append s t in
    let room = same_room p q s g in
    let one : n + length s ≤ length m = g.fits in
    let two : q.len + length t ≤ length (memory q) = h.fits in
    let first : q.len ≡ n + length s = g.longer in
    let second : r.len ≡ q.len + length t = h.longer in
    let front : length (take n m ++ s) ≡ q.len = length-append (take n m) s ∙ omega (arith, length-take-le n m (omega arith)) in
    let is : memory q ≡ (take n m ++ s) ++ drop (n + length s) m = g.after ∙ sym (append_assoc (take n m) s _) in
    let end : n + length s + length t ≡ n + length (s ++ t) = omega arith in
    record {
      fits = omega arith;
      longer = omega arith;
      after =
          h.after
          ∙ (λ k. take q.len (is k) ++ (t ++ drop (q.len + length t) (is k)))
          ∙ over_behind (take n m ++ s) (drop (n + length s) m) t q.len front
          ∙ (λ k. append_assoc (take n m) s t k ++ drop-drop (length t) (n + length s) m k)
          ∙ append_assoc (take n m) (s ++ t) _
          ∙ (λ k. take n m ++ ((s ++ t) ++ drop (end k) m));
      lent = h.lent ∙ g.lent;
    }

pub holds_none : (old : List ℕ) (p : Page) → p.len ≡ 0 → memory p ≡ old → Holds [] old p
holds_none old p none over = record { fits = omega arith; all = none; front = over }

pub holds_append : (t s old : List ℕ) (p q : Page) → Holds t old p → Appends p s q → Holds (t ++ s) old q
holds_append t s old p q g h =
    let both = length-append t s in
    let room = length-append t (drop (length t) old) in
    let rest = length-drop (length t) old in
    let one : length t ≤ length old = g.fits in
    let first : p.len ≡ length t = g.all in
    let is : memory p ≡ t ++ drop (length t) old = g.front in
    let same : length (memory p) ≡ length (t ++ drop (length t) old) = ap length is in
    let two : p.len + length s ≤ length (memory p) = h.fits in
    let second : q.len ≡ p.len + length s = h.longer in
    record {
      fits = omega arith;
      all = omega arith;
      front =
          h.after
          ∙ (λ k. take p.len (is k) ++ (s ++ drop (p.len + length s) (is k)))
          ∙ over_behind t (drop (length t) old) s p.len (sym first)
          ∙ (λ k. (t ++ s) ++ (drop-drop (length s) (length t) old ∙ ap (λ n. drop n old) (sym both)) k);
    }

-- nothing is written
pub appends_none : (p : Page) → p.len ≤ length (memory p) → Appends p [] p
appends_none p fits = record {
  fits = omega (arith, fits);
  longer = omega arith;
  after = sym (take-append-drop p.len (memory p)) ∙ ap (λ n. take p.len (memory p) ++ drop n (memory p)) (omega arith);
  lent = refl;
}
