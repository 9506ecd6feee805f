use Rattle.std.proofs.Common.{refl, arith}
use Rattle.printout.specs.Texts.{refusal_text}
use Rattle.printout.proofs.Sizes.{refusal_most}
use Rattle.printout.proofs.lines.text_lines.Goals as goal

pub refusal_line-requires : goal.refusal_line-requires
refusal_line-requires c = omega (arith, c.requires, refusal_most c.in-Err.refusal)

pub returns-in-Err : goal.returns-in-Err
returns-in-Err c = rw c.in-Err.is (record { text = refusal_text c.in-Err.refusal; is = refl; appends = c.refusal_line.ensures })
