use Rattle.std.proofs.Common.{◌≡◌, ◌<◌, ◌+◌, ℕ, sum, length, drop}
use Rattle.std.specs.List.{All}
use Rattle.roster.specs.declared.event.Event.TheVariants.{Service}
use Rattle.roster.specs.Records.{met, phase_at}
use Rattle.roster.specs.Tables.{rows_of}
use Rattle.roster.specs.Advancing.{Rises, rows_give, HasRoomFor}
use Rattle.roster.proofs.Serving.{rest_of}
use Rattle.roster.proofs.models.Models.serve.Given as goal

-- what the rows still to come give makes each phase what all rows make of it
abbrev pub invariant-loop-size : goal.invariant-loop-size
invariant-loop-size l = record {
  adds : sum (drop l.size-index l.sizes) ≡ length l.spans;
  rises : All (Rises 0) (rest_of l.sizes l.size-index l.spans);
  room : HasRoomFor (rows_give (rest_of l.sizes l.size-index l.spans)) l.self.records;
  serves : (k : ℕ) → k < 64
      → met (phase_at l.self.records k) (Service (rows_give (rest_of l.sizes l.size-index l.spans) (k + 1)))
      ≡ met (phase_at l.initial.self.records k) (Service (rows_give (rows_of l.rows) (k + 1)));
}
