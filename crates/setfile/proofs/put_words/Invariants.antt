use Rattle.std.proofs.Common.{◌≡◌, ◌*◌, take}
use Rattle.std.proofs.Math.Seq.{paste}
use Rattle.std.specs.List.{flat_map}
use Rattle.setfile.specs.Format.{word_bytes}
use Rattle.setfile.proofs.put_words.Given as goal

-- the words so far are written
abbrev pub invariant-loop-i : goal.invariant-loop-i
invariant-loop-i l = l.place ≡ paste l.initial.place 0 (flat_map word_bytes (take l.i l.words)) (4 * l.i)
