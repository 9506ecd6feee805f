use Rattle.std.proofs.Common.{refl}
use Rattle.season.proofs.Asking.{keeps_as}
use Rattle.season.proofs.entry.Entry.perform.Goals as goal

pub returns : goal.returns
returns g c = keeps_as _ _ _ _ _ (λ given h. record {
  call' = refl;
  answer = c.ask.result;
  answer' = refl;
  gives = h;
  long = c.ask.ensures.room;
  same_sheet = refl;
  same_scratch = refl;
}) c.ask.ensures.asks
