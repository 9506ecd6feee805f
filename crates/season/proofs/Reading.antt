-- The sheets that entries hold are those that they were answered.
use Rattle.std.proofs.Common.{◌≡◌, ℕ, ◌+◌, Bool, List, [], ◌∷◌, ◌++◌, length, map, take, drop, sum, Some, refl, sym, ap, ◌∙◌, append_assoc, append-nil, take_at, drop_at, length-append, arith, subst}
use Rattle.std.proofs.lemmas.List.{length-map}
use Rattle.std.proofs.lemmas.List.Sums.{sum_by-cons}
use Rattle.std.specs.List.{flat_map}
use Rattle.kinds.specs.declared.runs.Run.{Run}
use Rattle.book.specs.Racks.{Rack}
use Rattle.book.specs.Sheets.{Row, Span, Sheet, words_of}
use Rattle.book.specs.Books.{Book}
use Rattle.book.specs.Buffers.{words_after}
use Rattle.book.specs.Calls.{Advance, Answer as Given, Advanced, numbers_of, Step, declines, advances, rests, withdraws, stands, Leads, ends, goes}
use Rattle.season.specs.declared.call.Call.{Call}
use Rattle.season.specs.declared.call.Call.TheVariants as call
use Rattle.season.specs.declared.answer.Answer.{Answer}
use Rattle.season.specs.declared.answer.Answer.TheVariants as answer
use Rattle.season.specs.declared.entry.Entry.{Entry}
use Rattle.season.specs.Asking.{asked, IsAnswer, advanced, refused}
use Rattle.book.proofs.Reading.{words_read}
use Rattle.season.specs.Reading.{sheet_in, sheets_in}
use Rattle.season.specs.Performing.{asked_by, Holds, Hold, hold_none, hold_more}

-- the sheet that is read is the one that was answered
sheet_read : (s : Sheet) (start end first count : ℕ) (words : List ℕ) → (start, end, first, count) ≡ numbers_of s
    → sheet_in (call.Advance s.group) (Some (answer.Advanced start end first count)) (words_of s ++ words) ≡ s ∷ []
sheet_read s start end first count words is =
    let rows = words_read s words in
    λ i. record { group = s.group; start = (is i).0; end = (is i).1; first = (is i).2; rows = rows i } ∷ []

module _ {rack : Rack} {dates : ℕ → ℕ → Bool} {precedes : Run → Run → Bool} where
  -- an advance adds to the sheets of the book what is read in its answer and its words
  pub held_advance : (b : Book) (g n m : ℕ) (given : Given) (c : Book) (a : Answer) (old : List ℕ) → Step rack dates precedes b (Advance g n m) given c → IsAnswer a given
      → c.sheets ≡ b.sheets ++ sheet_in (call.Advance g) (Some a) (words_after given old)
  held_advance b g n m _ _ _ old (declines _ _ why) (refused e x told) = sym (append-nil b.sheets)
  held_advance b g n m _ _ _ old (rests _ _ _ fine last) (refused e x told) = sym (append-nil b.sheets)
  held_advance b g n m _ _ _ old (advances _ _ _ _ fine next) (advanced start end first count s is) =
      ap (λ (more : List Sheet). b.sheets ++ more) (sym (subst (λ (k : ℕ). sheet_in (call.Advance k) (Some (answer.Advanced start end first count)) (words_after (Advanced s) old) ≡ s ∷ []) next.group' (sheet_read s start end first count _ is)))

  -- a call adds to the sheets of the book what its entry holds
  pub held_one : (b : Book) (call : Call) (n : List ℕ) (m : List Run) (given : Given) (c : Book) (a : Answer) (old : List ℕ) → Step rack dates precedes b (asked call n m) given c → IsAnswer a given
      → c.sheets ≡ b.sheets ++ sheet_in call (Some a) (words_after given old)
  held_one b (call.Advance g) n m given c a old step h = held_advance b g (length n) (length m) given c a old step h
  held_one b (call.Withdraw i) n m _ _ a old (declines _ x why) h = sym (append-nil b.sheets)
  held_one b (call.Withdraw i) n m _ _ a old (withdraws _ fine) h = sym (append-nil b.sheets)
  held_one b (call.Standing i) n m _ _ a old (declines _ x why) h = sym (append-nil b.sheets)
  held_one b (call.Standing i) n m _ _ a old (stands _ fine) h = sym (append-nil b.sheets)

  pub held_entry : (b c : Book) (old new : Entry) (given : Given) → Step rack dates precedes b (asked_by old) given c → Holds old given new → c.sheets ≡ b.sheets ++ sheet_in new.call new.answer new.sheet.now
  held_entry b c old new given step holds =
      rw (holds.call', holds.answer', holds.gives.leaves.in_words) (held_one b old.call _ _ given c holds.answer old.sheet.now step holds.gives.is)

  -- and all calls what all entries hold
  pub held_all : (b e : Book) (olds news : List Entry) (givens : List Given) → Leads rack dates precedes b (map asked_by olds) givens e → Hold olds givens news → e.sheets ≡ b.sheets ++ sheets_in news
  held_all b _ [] [] _ (ends _) hold_none = sym (append-nil b.sheets)
  held_all b e [] (new ∷ news) _ led hold = elim hold [ ]
  held_all b e (old ∷ olds) [] _ led hold = elim hold [ ]
  held_all b e (old ∷ olds) (new ∷ news) _ (goes _ c _ _ given _ givens step rest) (hold_more _ _ _ _ _ _ one others) =
      held_all c e olds news givens rest others
      ∙ ap (λ (ss : List Sheet). ss ++ sheets_in news) (held_entry b c old new given step one)
      ∙ append_assoc b.sheets (sheet_in new.call new.answer new.sheet.now) (sheets_in news)
