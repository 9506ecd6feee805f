use Rattle.std.proofs.Common.{◌≡◌, take, map}
use Rattle.roster.specs.declared.sheet.span.Span.{Span}
use Rattle.roster.proofs.sheet.rows.words.put_models.Given as goal

abbrev pub invariant-loop-i : goal.invariant-loop-i
invariant-loop-i l = take l.i l.words ≡ map (λ (span : Span). span.model) (take l.i l.spans)
