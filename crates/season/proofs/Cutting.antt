-- A list of entries in two parts, with the book between them.
use Rattle.std.proofs.Common.{◌≡◌, ℕ, zero, suc, Bool, true, false, ◌||◌, List, [], ◌∷◌, ◌++◌, length, map, take, drop, refl, sym, ap, ◌∙◌, subst, Some, slice_get, length-append, arith}
use Rattle.std.specs.Prelude.{if◌then◌else◌}
use Rattle.std.specs.Bool.{IsTrue, IsFalse, ◌==◌}
use Rattle.std.proofs.lemmas.Bool.{cond-false, eqb-true}
use Rattle.std.proofs.lemmas.List.{append_cancel_left}
use Rattle.kinds.specs.declared.runs.Run.{Run}
use Rattle.book.specs.Racks.{Rack}
use Rattle.book.specs.Sheets.{Sheet}
use Rattle.book.specs.Books.{Book, entered}
use Rattle.book.specs.Calls.{Call as Asked, Advance, Withdraw, Answer as Given, Advanced, Withdrew, Step, declines, advances, rests, withdraws, stands, Leads, ends, goes}
use Rattle.season.specs.declared.call.Call.{Call}
use Rattle.season.specs.declared.call.Call.TheVariants as call
use Rattle.season.specs.declared.answer.Answer.{Answer}
use Rattle.season.specs.declared.entry.Entry.{Entry}
use Rattle.season.specs.Asking.{asked, IsAnswer, advanced, withdrew as says_withdrew, stands as says_stands, refused}
use Rattle.season.specs.Reading.{sheet_in, sheets_in}
use Rattle.season.specs.Serving.{taken_to, withdrew, one_withdrew}
use Rattle.season.specs.Performing.{asked_by, Holds, Hold, hold_none, hold_more}
use Rattle.season.proofs.Reading.{held_entry}

taken-append : (g t : ℕ) (xs ys : List Sheet) → taken_to g t (xs ++ ys) ≡ taken_to g (taken_to g t xs) ys
taken-append g t [] ys = refl
taken-append g t (s ∷ xs) ys = taken-append g (if g == s.group then s.end else t) xs ys

either : (a b : Bool) → IsFalse (a || b) → IsFalse a × IsFalse b
either true b h = (h, cc)
either false b h = (refl, h)

-- a list is not itself and one thing more
not_longer : {X : Type 0} (xs ys : List X) (y : X) → xs ≡ xs ++ y ∷ ys → ⊥
not_longer xs ys y is = absurd (omega (arith, ap length is, length-append xs (y ∷ ys)))

module _ (rack : Rack) (dates : ℕ → ℕ → Bool) (precedes : Run → Run → Bool) where
  -- a call that added a sheet to the book
  pub record Adds (b c : Book) (s : Sheet) : Type 0 where
    pub words : ℕ
    pub things : ℕ
    pub step : Step rack dates precedes b (Advance s.group words things) (Advanced s) c
    pub start' : s.start ≡ b.present s.group

  -- is an advance that was answered with that sheet
  pub adds : (b : Book) (asked : Asked) (given : Given) (c : Book) (s : Sheet) → Step rack dates precedes b asked given c → c.sheets ≡ b.sheets ++ s ∷ [] → Adds b c s
  adds b _ _ _ s (declines _ x why) is = absurd (not_longer b.sheets [] s is)
  adds b _ _ _ s (rests _ _ _ fine last) is = absurd (not_longer b.sheets [] s is)
  adds b _ _ _ s (withdraws _ fine) is = absurd (not_longer b.sheets [] s is)
  adds b _ _ _ s (stands _ fine) is = absurd (not_longer b.sheets [] s is)
  adds b _ _ _ s (advances g words things z fine next) is =
      let same : z ∷ [] ≡ s ∷ [] = append_cancel_left b.sheets (z ∷ []) (s ∷ []) is in
      let one : z ≡ s = cc in
      subst (λ (t : Sheet). Adds b (entered b z) t) one (record {
        words = words;
        things = things;
        step = subst (λ (h : ℕ). Step rack dates precedes b (Advance h words things) (Advanced z) (entered b z)) (sym next.group') (advances g words things z fine next);
        start' = next.start' ∙ ap b.present (sym next.group');
      })

  -- a call takes a group where the sheet takes it that it adds
  taken_one : (b : Book) (asked : Asked) (given : Given) (c : Book) (added : List Sheet) (g : ℕ) → Step rack dates precedes b asked given c → c.sheets ≡ b.sheets ++ added → c.present g ≡ taken_to g (b.present g) added
  taken_one b _ _ _ added g (advances h words things z fine next) is =
      subst (λ (ss : List Sheet). (entered b z).present g ≡ taken_to g (b.present g) ss) (append_cancel_left b.sheets (z ∷ []) added is) refl
  taken_one b _ _ _ [] g (declines _ x why) is = refl
  taken_one b _ _ _ [] g (rests _ _ _ fine last) is = refl
  taken_one b _ _ _ [] g (withdraws _ fine) is = refl
  taken_one b _ _ _ [] g (stands _ fine) is = refl
  taken_one b _ _ _ (m ∷ added) g (declines _ x why) is = absurd (not_longer b.sheets added m is)
  taken_one b _ _ _ (m ∷ added) g (rests _ _ _ fine last) is = absurd (not_longer b.sheets added m is)
  taken_one b _ _ _ (m ∷ added) g (withdraws _ fine) is = absurd (not_longer b.sheets added m is)
  taken_one b _ _ _ (m ∷ added) g (stands _ fine) is = absurd (not_longer b.sheets added m is)

  -- what a call does not withdraw stays
  kept_one : (b : Book) (call : Call) (n : List ℕ) (m : List Run) (given : Given) (c : Book) (a : Answer) (i : ℕ) → Step rack dates precedes b (asked call n m) given c → IsAnswer a given → IsFalse (withdrew i call (Some a)) → IsFalse (b.withdrawn i) → IsFalse (c.withdrawn i)
  kept_one b (call.Advance g) n m _ _ a i (declines _ x why) says none kept = kept
  kept_one b (call.Advance g) n m _ _ a i (rests _ _ _ fine last) says none kept = kept
  kept_one b (call.Advance g) n m _ _ a i (advances _ _ _ s fine next) says none kept = kept
  kept_one b (call.Withdraw j) n m _ _ a i (declines _ x why) says none kept = kept
  kept_one b (call.Withdraw j) n m _ _ _ i (withdraws _ fine) says_withdrew none kept = cond-false (i == j) true (b.withdrawn i) none ∙ kept
  kept_one b (call.Standing j) n m _ _ a i (declines _ x why) says none kept = kept
  kept_one b (call.Standing j) n m _ _ a i (stands _ fine) says none kept = kept

  -- a call that withdrew a model
  out_one : (b : Book) (call : Call) (n : List ℕ) (m : List Run) (given : Given) (c : Book) (a : Answer) (i : ℕ) → Step rack dates precedes b (asked call n m) given c → IsAnswer a given → IsTrue (withdrew i call (Some a)) → Step rack dates precedes b (Withdraw i) Withdrew c
  out_one b (call.Withdraw j) n m _ c _ i step says_withdrew out = subst (λ (k : ℕ). Step rack dates precedes b (Withdraw k) Withdrew c) (sym (eqb-true i j out)) step
  out_one b (call.Withdraw j) n m _ c _ i step (advanced start end first count s is) out = absurd (cc)
  out_one b (call.Withdraw j) n m _ c _ i step (says_stands standing report is) out = absurd (cc)
  out_one b (call.Withdraw j) n m _ c _ i step (refused e x told) out = absurd (cc)
  out_one b (call.Advance g) n m _ c a i step says out = absurd (cc)
  out_one b (call.Standing j) n m _ c a i step says out = absurd (cc)

  -- the first k entries are performed, and the others are still to come
  pub record Cut (b e : Book) (olds news : List Entry) (givens : List Given) (k : ℕ) : Type 0 where
    pub at : Book
    pub calls : List Asked
    pub answers : List Given
    pub made : Leads rack dates precedes b calls answers at
    pub present : (g : ℕ) → at.present g ≡ taken_to g (b.present g) (sheets_in (take k news))
    pub kept : (i : ℕ) → IsFalse (b.withdrawn i) → IsFalse (one_withdrew i (take k news)) → IsFalse (at.withdrawn i)
    pub follow : Leads rack dates precedes at (map asked_by (drop k olds)) (drop k givens) e
    pub hold : Hold (drop k olds) (drop k givens) (drop k news)

  pub cut : (b e : Book) (olds news : List Entry) (givens : List Given) (k : ℕ) → Leads rack dates precedes b (map asked_by olds) givens e → Hold olds givens news → Cut b e olds news givens k
  cut b e olds news givens zero led hold = record { at = b; calls = []; answers = []; made = ends b; present = λ g. refl; kept = λ i was none. was; follow = led; hold = hold }
  cut b _ [] [] _ (suc k) (ends _) hold_none = record { at = b; calls = []; answers = []; made = ends b; present = λ g. refl; kept = λ i was none. was; follow = ends b; hold = hold_none }
  cut b e [] (new ∷ news) _ (suc k) led hold = elim hold [ ]
  cut b e (old ∷ olds) [] _ (suc k) led hold = elim hold [ ]
  cut b e (old ∷ olds) (new ∷ news) _ (suc k) (goes _ c _ _ given _ givens step rest) (hold_more _ _ _ _ _ _ one others) =
      let w = cut c e olds news givens k rest others in
      record {
        at = w.at;
        calls = asked_by old ∷ w.calls;
        answers = given ∷ w.answers;
        made = goes b c w.at (asked_by old) given w.calls w.answers step w.made;
        present = λ g. w.present g
            ∙ ap (λ (t : ℕ). taken_to g t (sheets_in (take k news))) (taken_one b (asked_by old) given c _ g step (held_entry b c old new given step one))
            ∙ sym (taken-append g (b.present g) (sheet_in new.call new.answer new.sheet.now) (sheets_in (take k news)));
        kept = λ i was none.
            let (here, later) = either (withdrew i new.call new.answer) (one_withdrew i (take k news)) none in
            w.kept i (kept_one b old.call _ _ given c one.answer i step one.gives.is (rw (one.call', one.answer') at here) was) later;
        follow = w.follow;
        hold = w.hold;
      }

  -- the entry that is performed next
  pub record Next (b e : Book) (new : Entry) : Type 0 where
    pub old : Entry
    pub given : Given
    pub after : Book
    pub step : Step rack dates precedes b (asked_by old) given after
    pub holds : Holds old given new
    pub calls : List Asked
    pub answers : List Given
    pub follow : Leads rack dates precedes after calls answers e

  pub next : (b e : Book) (olds news : List Entry) (givens : List Given) (entry : Entry) → Leads rack dates precedes b (map asked_by olds) givens e → Hold olds givens news → slice_get news 0 ≡ Some entry → Next b e entry
  next b _ [] [] _ entry (ends _) hold_none is = absurd (cc)
  next b e [] (new ∷ news) _ entry led hold is = elim hold [ ]
  next b e (old ∷ olds) [] _ entry led hold is = elim hold [ ]
  next b e (old ∷ olds) (new ∷ news) _ entry (goes _ c _ _ given _ givens step rest) (hold_more _ _ _ _ _ _ one others) is =
      let same : new ≡ entry = cc in
      subst (λ (en : Entry). Next b e en) same (record { old = old; given = given; after = c; step = step; holds = one; calls = map asked_by olds; answers = givens; follow = rest })

  -- the sheet that it holds is the book's, and the model that it withdrew is the book's
  pub next_adds : (b e : Book) (entry : Entry) (s : Sheet) (w : Next b e entry) → sheet_in entry.call entry.answer entry.sheet.now ≡ s ∷ [] → Adds b w.after s
  next_adds b e entry s w reads = adds b (asked_by w.old) w.given w.after s w.step (held_entry b w.after w.old entry w.given w.step w.holds ∙ ap (λ (ss : List Sheet). b.sheets ++ ss) reads)

  pub next_out : (b e : Book) (entry : Entry) (i : ℕ) (w : Next b e entry) → IsTrue (withdrew i entry.call entry.answer) → Step rack dates precedes b (Withdraw i) Withdrew w.after
  next_out b e entry i w out = out_one b w.old.call _ _ w.given w.after w.holds.answer i w.step w.holds.gives.is (rw (w.holds.call', w.holds.answer') at out)

pub slice_get-drop : {X : Type 0} (xs : List X) (k : ℕ) → slice_get (drop k xs) 0 ≡ slice_get xs k
slice_get-drop xs zero = refl
slice_get-drop [] (suc k) = refl
slice_get-drop (x ∷ xs) (suc k) = slice_get-drop xs k
