use Rattle.std.proofs.Common.{◌≡◌, ℕ, ◌+◌, ◌<◌, get_or}
use Rattle.plan.specs.Shares.{pieces_at, carried}
use Rattle.placement.proofs.places.loads_of.Given as goal

abbrev pub invariant-loop-model_pieces : goal.invariant-loop-model_pieces
invariant-loop-model_pieces l = (p : ℕ) → p < 32 → get_or l.loads p 0 ≡ carried (pieces_at l.pieces) (p + 1) l.model_pieces-index
