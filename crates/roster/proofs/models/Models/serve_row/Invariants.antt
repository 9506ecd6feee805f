use Rattle.std.proofs.Common.{◌≡◌, ◌<◌, ◌+◌, ℕ, drop, map}
use Rattle.roster.specs.declared.event.Event.TheVariants.{Service}
use Rattle.roster.specs.Records.{met, phase_at}
use Rattle.roster.specs.Spans.{told_by}
use Rattle.roster.specs.Advancing.{Rises, row_gives, HasRoomFor}
use Rattle.roster.proofs.models.Models.serve_row.Given as goal

-- what the spans still to come give makes each phase what the row makes of it
abbrev pub invariant-loop-span : goal.invariant-loop-span
invariant-loop-span l = record {
  rises : Rises l.start (map told_by (drop l.span-index l.row));
  room : HasRoomFor (row_gives l.start (map told_by (drop l.span-index l.row))) l.self.records;
  serves : (k : ℕ) → k < 64
      → met (phase_at l.self.records k) (Service (row_gives l.start (map told_by (drop l.span-index l.row)) (k + 1)))
      ≡ met (phase_at l.initial.self.records k) (Service (row_gives 0 (map told_by l.row) (k + 1)));
}
