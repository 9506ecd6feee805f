use Rattle.std.proofs.Common.{◌≡◌, ◌-◌, length}
use Rattle.printout.proofs.Advances.{UpTo}
use Rattle.printout.proofs.groups.group_lines.Given as goal

abbrev pub invariant-loop-group : goal.invariant-loop-group
invariant-loop-group l = record {
  upto : UpTo l.plan l.initial.roster.calendar.now l.initial.roster.order.now l.fn.page (l.group - 1) l.roster l.page;
  long : length l.sheet ≡ 512;
  roomy : length l.scratch ≡ 64;
}
