use Rattle.roster.specs.Spans.{spans_of}
use Rattle.roster.proofs.Spans.{says_given}
use Rattle.roster.proofs.sheet.row.Row.reach.Goals as goal

pub returns-then-at-to-clause-says : goal.returns-then-at-to-clause-says
returns-then-at-to-clause-says c = λ has is says.
    rw c.give.ensures.gives (says_given c.args.at c.args.to c.args.model has (spans_of c.args.self.now) says c.if-at-to.true is)
