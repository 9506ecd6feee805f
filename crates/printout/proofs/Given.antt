-- What an advance gave is what the book answers, as text.
use Rattle.std.proofs.Common.{◌≡◌, ℕ, Bool, List, [], ◌∷◌, ◌++◌, length, map, take, drop, Ok, Err, Result, codes, append-nil, refl, sym, ap, ◌∙◌, take_at, append_assoc, length-append, arith}
use Rattle.std.proofs.lemmas.List.{length-map}
use Rattle.std.specs.List.{flat_map}
use Rattle.refusal.specs.Refusals.{Complaint, told}
use Rattle.refusal.specs.declared.Refusal.{Refusal}
use Rattle.kinds.specs.declared.runs.Run.{Run}
use Rattle.book.specs.Racks.{Rack}
use Rattle.book.specs.Sheets.{Span, Row, Sheet, words_of}
use Rattle.book.specs.Reading.{rows_in}
use Rattle.book.specs.Books.{Book}
use Rattle.book.specs.Calls.{Advance, Answer, Advanced, Refused, Step, declines, advances, rests, numbers_of, no_moment}
use Rattle.book.proofs.Reading.{words_read}
use Rattle.book.proofs.Rows.{words_length, spans_sum}
use Rattle.roster.specs.Keeping.{Advances}
use Rattle.printout.specs.Lines.{line_of}
use Rattle.printout.specs.Texts.{rows_text, answer_text}
use Rattle.printout.specs.Showing.{AreSheetWords, IsWhole, given_text}

-- the words of a sheet are those of rows
sheet_words : (s : Sheet) → AreSheetWords (words_of s)
sheet_words s =
    let sizes = map {A = Row} length s.rows in
    let ends = flat_map (map (λ (span : Span). span.end)) s.rows in
    let models = flat_map (map (λ (span : Span). span.model)) s.rows in
    let many : length sizes ≡ length s.rows = length-map {A = Row} s.rows length in
    let is : words_of s ≡ length sizes ∷ sizes ++ (ends ++ models) = λ k. sym many k ∷ append_assoc sizes ends models k in
    record {
      sizes = sizes;
      spans = ends ++ models;
      is = is;
      even = omega (arith, words_length s, ap length is, length-append sizes (ends ++ models), many, spans_sum s.rows);
    }

-- what an advance gave has the text of the answer, and its words are whole
pub record HasText (g : ℕ) (result : Result (ℕ × ℕ × ℕ × ℕ) Refusal) (words : List ℕ) (answer : Answer) : Type 0 where
  pub whole : IsWhole result words
  pub same : given_text g result words ≡ answer_text answer

sheet_has : (g : ℕ) (s : Sheet) (behind : List ℕ) → s.group ≡ g → HasText g (Ok (numbers_of s)) (words_of s ++ behind) (Advanced s)
sheet_has g s behind here =
    let front : take (length (words_of s)) (words_of s ++ behind) ≡ words_of s = take_at (words_of s) behind (length (words_of s)) refl in
    let rows : rows_in (words_of s) ≡ s.rows = ap rows_in (sym (append-nil (words_of s))) ∙ words_read s [] in
    record {
      whole = (omega (arith, length-append (words_of s) behind), rw front (sheet_words s));
      same =
          ap (λ ws. line_of (codes "group") (g ∷ (s.start ∷ (s.end ∷ []))) ++ rows_text s.first (rows_in ws)) front
          ∙ ap (λ rows. line_of (codes "group") (g ∷ (s.start ∷ (s.end ∷ []))) ++ rows_text s.first rows) rows
          ∙ ap (λ n. line_of (codes "group") (n ∷ (s.start ∷ (s.end ∷ []))) ++ rows_text s.first s.rows) (sym here);
    }

refusal_has : (g : ℕ) (result : Result (ℕ × ℕ × ℕ × ℕ) Refusal) (words words' : List ℕ) (scratch scratch' : List Run) (complaint : Complaint)
    → Advances result words words' scratch scratch' (Refused complaint) → HasText g result words' (Refused complaint)
refusal_has g (Ok numbers) words words' scratch scratch' complaint given = absurd (let none = given.agrees.1.0 in cc)
refusal_has g (Err refusal) words words' scratch scratch' complaint given = record {
  whole = tt;
  same = let is : complaint ≡ told refusal = (let same = given.agrees in cc) in ap (λ (c : Complaint). line_of (codes "rest") (c.place ∷ [])) (sym is);
}

advance_has : (g : ℕ) (result : Result (ℕ × ℕ × ℕ × ℕ) Refusal) (words words' : List ℕ) (scratch scratch' : List Run) (s : Sheet) → s.group ≡ g
    → Advances result words words' scratch scratch' (Advanced s) → HasText g result words' (Advanced s)
advance_has g (Ok numbers) words words' scratch scratch' s here given =
    let same : s ≡ given.agrees.0 = (let e = given.agrees.1.0 in cc) in
    let is : numbers ≡ numbers_of s = given.agrees.1.1 ∙ ap numbers_of (sym same) in
    rw (is, given.leaves.in_words) (sheet_has g s (drop (length (words_of s)) words) here)
advance_has g (Err refusal) words words' scratch scratch' s here given = absurd (let none = given.agrees in cc)

module _ {rack : Rack} {dates : ℕ → ℕ → Bool} {precedes : Run → Run → Bool} {result : Result (ℕ × ℕ × ℕ × ℕ) Refusal} {words words' : List ℕ} {scratch scratch' : List Run} where
  pub step_has : {b : Book} {g w t : ℕ} {answer : Answer} {c : Book} → Step rack dates precedes b (Advance g w t) answer c → Advances result words words' scratch scratch' answer → HasText g result words' answer
  step_has {g = g} (declines _ complaint why) given = refusal_has g result words words' scratch scratch' complaint given
  step_has {g = g} (advances _ w t s fine next) given = advance_has g result words words' scratch scratch' s next.group' given
  step_has {g = g} (rests _ w t fine last) given = refusal_has g result words words' scratch scratch' (no_moment rack g) given
