use Rattle.std.proofs.Common.{◌≡◌, take}
use Rattle.roster.proofs.sheet.rows.words.put_sizes.Given as goal

abbrev pub invariant-loop-i : goal.invariant-loop-i
invariant-loop-i l = take l.i l.words ≡ take l.i l.sizes
