use Rattle.std.proofs.Common.{◌∷◌, ◌++◌, [], ap, ◌∙◌}
use Rattle.roster.specs.Tables.{rows_of}
use Rattle.roster.proofs.Tables.{pushed}
use Rattle.roster.proofs.sheet.rows.Rows.push.Goals as goal

pub returns : goal.returns
returns c =
    let t = c.args.self.now in
    rw c.copy_from_slice.ensures.after (pushed t c.spans-spans.result.now c.requires.worker ∙ ap (λ row. rows_of t ++ row ∷ []) c.spans-spans.ensures)
