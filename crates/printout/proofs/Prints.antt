-- What a page holds that nothing was written on before the text.
use Rattle.std.proofs.Common.{◌≡◌, ℕ, ◌<◌, List, [], ◌++◌, length, drop, None, Result, sym, ap, ◌∙◌, arith}
use Rattle.std.proofs.lemmas.Bool.{leb-true}
use Rattle.refusal.specs.declared.Refusal.{Refusal}
use Rattle.plan.specs.declared.plans.Plan.{Plan}
use Rattle.placement.specs.Placing.{PlacesFile}
use Rattle.refusal.proofs.Firsts.{passed}
use Rattle.printout.specs.declared.page.Page.{Page}
use Rattle.printout.specs.Pages.{memory, HasRoom}
use Rattle.printout.specs.Printing.{about_memory, IsText, IsFileText, Printed}
use Rattle.printout.specs.Showing.{Shows}
use Rattle.setfile.proofs.Longer.{reads_longer}
use Rattle.printout.proofs.Ones.{one_file_text}
use Rattle.printout.proofs.Pages.{Holds, holds_none, holds_append}

module _ (old : List ℕ) (p : Page) (none : p.len ≡ 0) (over : memory p ≡ old) where
  -- memory about which there is no complaint
  pub has_room : about_memory (length old) ≡ None → HasRoom p 16384
  has_room fine = omega (arith, none, ap length over, leb-true 16384 (length old) (passed _ _ _ fine).0)

  -- such a text is written, and all such texts are one
  pub printed : (Is : List ℕ → Type 0) → ((text other : List ℕ) → Is text → Is other → other ≡ text)
      → (q : Page) → Shows Is p q → (new : List ℕ) (n : ℕ) → n ≡ q.len → new ≡ memory q → Printed Is old new n
  printed Is one q shows new n len now =
      let text = shows.text in
      let all : Holds text old q = holds_append [] text old p q (holds_none old p none over) shows.appends in
      let size = len ∙ all.all in
      record {
        text = text;
        is = shows.is;
        only = λ other. one text other shows.is;
        size = size;
        after' = now ∙ (all.front ∙ ap (λ k. text ++ drop k old) (sym size));
      }

-- what shows the text of what placing gave, shows that of the file
pub of_file : (bytes : List ℕ) (placed : Result Plan Refusal) {p q : Page} → PlacesFile bytes placed → Shows (IsText placed) p q → Shows (IsFileText bytes) p q
of_file bytes placed places shows = record { text = shows.text; is = record { placed = placed; places = places; tells = shows.is }; appends = shows.appends }

-- a text of many bytes is that of whatever begins with them
longer_text : (bytes more text : List ℕ) → 528 < length bytes → IsFileText bytes text → IsFileText (bytes ++ more) text
longer_text bytes more text long is = record {
  placed = is.placed;
  places = record { read = is.places.read; reads = reads_longer bytes is.places.read is.places.reads more long; places = is.places.places };
  tells = is.tells;
}

pub longer : (bytes old new : List ℕ) (n : ℕ) → Printed (IsFileText bytes) old new n → (more : List ℕ) → 528 < length bytes → Printed (IsFileText (bytes ++ more)) old new n
longer bytes old new n printed more long =
    let is = longer_text bytes more printed.text long printed.is in
    record { text = printed.text; is = is; only = λ other. one_file_text (bytes ++ more) printed.text other is; size = printed.size; after' = printed.after' }
