use Rattle.std.proofs.Common.{[], ◌∷◌, codes, decimal, ap, arith}
use Rattle.std.proofs.lemmas.List.{length-append}
use Rattle.refusal.specs.declared.Refusal.{Refusal}
use Rattle.refusal.specs.Refusals.{number_of, word_of, refusal_words}
use Rattle.printout.specs.declared.page.Page.{Page}
use Rattle.printout.specs.Pages.{Appends}
use Rattle.printout.proofs.Pages.{room_left, appends_append, appends_same}
use Rattle.printout.proofs.lines.refusal_line.Goals as goal

-- a refusal in words, one after another
worded : (e : Refusal) (p q r s t u v : Page) → Appends p (codes "refused ") q → Appends q (decimal (number_of e.fault)) r → Appends r (codes " ") s → Appends s (word_of e.layer) t → Appends t (codes " ") u → Appends u (decimal e.place) v → Appends p (refusal_words e) v
worded e p q r s t u v refused number space word again place =
    appends_append p u v _ _ (appends_append p t u _ _ (appends_append p s t _ _ (appends_append p r s _ _ (appends_append p q r _ _ refused number) space) word) again) place

pub put-requires-5 : goal.put-requires-5
put-requires-5 c =
    let e = c.args.refusal in
    let number = appends_same _ _ _ _ (ap decimal c.number.ensures) c.number-2.ensures in
    let word = appends_same _ _ _ _ c.word.ensures c.put-3.ensures in
    let words = worded e _ _ _ _ _ _ _ c.put.ensures number c.put-2.ensures word c.put-4.ensures c.number-3.ensures in
    room_left _ _ (refusal_words e) 1 words (omega (arith, length-append (refusal_words e) (10 ∷ []), c.requires))

pub returns : goal.returns
returns c =
    let e = c.args.refusal in
    let number = appends_same _ _ _ _ (ap decimal c.number.ensures) c.number-2.ensures in
    let word = appends_same _ _ _ _ c.word.ensures c.put-3.ensures in
    let words = worded e _ _ _ _ _ _ _ c.put.ensures number c.put-2.ensures word c.put-4.ensures c.number-3.ensures in
    appends_append _ _ _ (refusal_words e) (10 ∷ []) words c.put-5.ensures
