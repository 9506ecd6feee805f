use Rattle.std.proofs.Common.{ap}
use Rattle.set.proofs.Blanks.{get_or_blank}
use Rattle.roster.specs.declared.phase.Phase.TheVariants.{Waiting}
use Rattle.roster.specs.declared.record.Record.{Record}
use Rattle.roster.proofs.models.Models.new.Goals as goal

pub returns : goal.returns
returns c = λ k. ap (λ (r : Record). r.phase) (get_or_blank 64 k (record { phase = Waiting }))
