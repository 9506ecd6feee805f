use Rattle.std.proofs.Common.{◌≡◌, ℕ, ◌*◌, ◌<◌, length, get_or}
use Rattle.setfile.specs.Format.{word_at}
use Rattle.setfile.proofs.words.Given as goal

-- the words so far are read
abbrev pub invariant-loop-i : goal.invariant-loop-i
invariant-loop-i g l = (length l.words ≡ g.row.N) × ((k : ℕ) → k < l.i → get_or l.words k 0 ≡ word_at l.bytes (4 * k))
