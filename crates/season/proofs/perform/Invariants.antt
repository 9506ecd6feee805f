use Rattle.std.proofs.Common.{◌≡◌, length, take, drop}
use Rattle.season.proofs.Performing.{Told}
use Rattle.season.proofs.perform.Given as goal

abbrev pub invariant-loop-entry : goal.invariant-loop-entry
invariant-loop-entry g l = record {
  told : Told l.plan l.calendar l.order (take l.entry-index l.fn.entries) (take l.entry-index l.entries) l.roster;
  rest : drop l.entry-index l.entries ≡ drop l.entry-index l.fn.entries;
  long : length l.entries ≡ length l.fn.entries;
}
