use Rattle.season.specs.Asking.{withdrew}
use Rattle.season.proofs.Asking.{says_refused, keeps_as}
use Rattle.callers.proofs.stepped.withdraw.Goals as goal

pub returns-in-Ok : goal.returns-in-Ok
returns-in-Ok g c = keeps_as _ _ _ _ _ (λ given is. rw is withdrew) c.in-Ok.ensures.keeps

pub returns-in-Err : goal.returns-in-Err
returns-in-Err g c = keeps_as _ _ _ _ _ (λ given is. says_refused _ given is) c.in-Err.ensures.keeps
