use Rattle.printout.proofs.Pages.{appends_append}
use Rattle.printout.proofs.groups.span_words.Goals as goal

pub returns : goal.returns
returns c =
    appends_append _ _ _ _ _ c.put.ensures
    (appends_append _ _ _ _ _ c.number.ensures
    (appends_append _ _ _ _ _ c.put-2.ensures c.number-2.ensures))
