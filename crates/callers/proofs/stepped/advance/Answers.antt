use Rattle.season.proofs.Asking.{says_advanced, says_refused, keeps_as}
use Rattle.callers.proofs.stepped.advance.Goals as goal

pub returns-in-Ok : goal.returns-in-Ok
returns-in-Ok g c = keeps_as _ _ _ _ _ (λ given h. record { says = says_advanced _ _ _ _ given h.agrees; words' = h.leaves.in_words }) c.in-Ok.ensures.keeps

pub returns-in-Err : goal.returns-in-Err
returns-in-Err g c = keeps_as _ _ _ _ _ (λ given h. record { says = says_refused _ given h.agrees; words' = h.leaves.in_words }) c.in-Err.ensures.keeps
