use Rattle.std.proofs.Common.{[], ◌∙◌, arith}
use Rattle.std.proofs.lemmas.List.Edits.{paste_none}
use Rattle.setfile.proofs.Writings.{paste_word, pasted}
use Rattle.setfile.proofs.put_words.Goals as goal

pub loop-i-init : goal.loop-i-init
loop-i-init c = paste_none c.args.place.now 0 []

pub loop-i-preserved : goal.loop-i-preserved
loop-i-preserved c =
    paste_word c.args.place.now c.args.words.now c.loop-i.i c.loop-i.place _ (omega arith) (c.copy_from_slice.ensures.after ∙ c.to_le_bytes.ensures) c.loop-i.invariant

pub returns : goal.returns
returns c = c.loop-i.invariant ∙ pasted c.args.place.now c.args.words.now c.loop-i.i (omega arith) (omega arith)
