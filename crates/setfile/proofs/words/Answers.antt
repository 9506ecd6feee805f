use Rattle.std.proofs.Common.{◌/◌, length, ◌∙◌, arith}
use Rattle.std.proofs.lemmas.List.{length-set, length-take}
use Rattle.setfile.proofs.Rows.{word_more}
use Rattle.setfile.proofs.words.Goals as goal

pub loop-i-preserved : goal.loop-i-preserved
loop-i-preserved g c = (
  length-set c.loop-i.words c.loop-i.i c.from_le_bytes.result ∙ c.loop-i.invariant.0,
  word_more c.args.bytes.now (length c.args.bytes.now / 4) c.min.result c.loop-i.i _ c.loop-i.words c.from_le_bytes.result c.as_chunks.ensures.front c.as_chunks.ensures.front_len c.loop-i-test.true (omega (arith, c.min.ensures, c.loop-i-test.true, c.loop-i.invariant.0, length-take c.min.result c.as_chunks.result.0.now)) c.from_le_bytes.ensures c.loop-i.invariant.1,
)
