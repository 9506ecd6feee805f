use Rattle.std.proofs.Common.{◌≡◌, length, take}
use Rattle.dates.specs.Lists.{Ended}
use Rattle.calendars.proofs.list.ends.Given as goal

abbrev pub invariant-loop-entry : goal.invariant-loop-entry
invariant-loop-entry l = record {
  wide : length l.ends ≡ 64;
  ended : Ended l.ends (take l.entry-index l.entries);
}
