use Rattle.std.proofs.Common.{◌∙◌, arith}
use Rattle.std.proofs.lemmas.List.{take_all, length-set}
use Rattle.std.proofs.lemmas.Bool.Decides.{nat_tests}
use Rattle.dates.specs.Lists.{no_entry}
use Rattle.dates.proofs.Ends.{ended_more}
use Rattle.calendars.proofs.list.ends.Goals as goal

pub loop-entry-preserved : goal.loop-entry-preserved
loop-entry-preserved c =
    let here = c.requires c.loop-entry.entry-index no_entry (omega arith) in
    let max = c.max.ensures in
    record {
      wide = length-set c.loop-entry.ends _ _ ∙ c.loop-entry.invariant.wide;
      ended = ended_more c.loop-entry.ends c.args.entries.now c.loop-entry.entry-index c.max.result (omega arith) c.loop-entry.invariant.wide here.1 (grind (arith, nat_tests)) (grind (arith, nat_tests)) c.loop-entry.invariant.ended;
    }

pub returns : goal.returns
returns c =
    let past = c.loop-entry-test.false in
    rw (take_all c.loop-entry.entry-index c.args.entries.now past) at c.loop-entry.invariant.ended
