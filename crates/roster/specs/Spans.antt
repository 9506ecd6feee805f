-- The row so far; no public contract speaks of it.
use Rattle.std.specs.Prelude.{ℕ, if◌then◌else◌, [], ◌∷◌, map, take, ◌==◌}
use Rattle.book.specs.Sheets.{Span as Told, Row as TheRow}
use Rattle.roster.specs.declared.sheet.row.Row.{Row}
use Rattle.roster.specs.declared.sheet.span.Span.{Span}

-- a span, as the book has it
abbrev pub told_by : Span → Told
told_by span = record { end = span.end; model = span.model }

-- how many spans it has
abbrev pub span_count : Row → ℕ
span_count row = row.count

-- the spans, as the book has them
abbrev pub spans_of : Row → TheRow
spans_of row = map told_by (take row.count row.spans)

-- a span more, joined to the last one if that is of the same model
abbrev pub given : TheRow → ℕ → ℕ → TheRow
given [] end model = record { end = end; model = model } ∷ []
given (span ∷ []) end model = if span.model == model then record { end = end; model = model } ∷ [] else span ∷ record { end = end; model = model } ∷ []
given (span ∷ (next ∷ row)) end model = span ∷ given (next ∷ row) end model
