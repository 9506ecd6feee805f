-- The text of a plan, or of the refusal that stands in its place.
use Rattle.std.specs.Prelude.{ℕ, ◌+◌, List, [], ◌∷◌, ◌++◌, codes, decimal, slice_index}
use Rattle.std.specs.List.{range_with_len, flat_map}
use Rattle.refusal.specs.declared.Refusal.{Refusal}
use Rattle.refusal.specs.Refusals.{Complaint, told, complaint_words}
use Rattle.plan.specs.declared.pieces.Pieces.{Pieces}
use Rattle.plan.specs.declared.pieces.Pieces.TheVariants.{Whole, Divided}
use Rattle.plan.specs.declared.plans.Plan.{Plan}
use Rattle.plan.specs.Shares.{pieces_at}
use Rattle.book.specs.Sheets.{Span, Row, Sheet}
use Rattle.book.specs.Calls.{Answer, Advanced, Refused}
use Rattle.printout.specs.Lines.{spaced, line_of}

-- refused, number, layer, place
abbrev pub complaint_text : Complaint → List ℕ
complaint_text c = complaint_words c ++ 10 ∷ []

abbrev pub refusal_text : Refusal → List ℕ
refusal_text e = complaint_text (told e)

-- piece, model, worker, size: one line, or two for a divided model
abbrev pub pieces_text : ℕ → Pieces → List ℕ
pieces_text model (Whole worker size) = line_of (codes "piece") (model ∷ (worker ∷ (size ∷ [])))
pieces_text model (Divided worker first second) =
    line_of (codes "piece") (model ∷ (worker ∷ (first ∷ []))) ++ line_of (codes "piece") (model ∷ ((worker + 1) ∷ (second ∷ [])))

-- a space, where the span ends, and its model
abbrev pub span_text : Span → List ℕ
span_text span = spaced span.end ++ (codes ":" ++ decimal span.model)

-- row, worker, spans
abbrev pub row_text : ℕ → Row → List ℕ
row_text worker row = codes "row" ++ (spaced worker ++ (flat_map span_text row ++ (10 ∷ [])))

-- the rows of this worker and those behind it
abbrev pub rows_text : ℕ → List Row → List ℕ
rows_text worker [] = []
rows_text worker (row ∷ rows) = row_text worker row ++ rows_text (worker + 1) rows

-- group, number, start, end; then its rows
abbrev pub sheet_text : Sheet → List ℕ
sheet_text s = line_of (codes "group") (s.group ∷ (s.start ∷ (s.end ∷ []))) ++ rows_text s.first s.rows

-- the answer to an advance, which is one of two: its sheet or, where the group has no later moment, a refusal whose place is the group's number
abbrev pub answer_text : Answer → List ℕ
answer_text (Advanced s) = sheet_text s
answer_text (Refused complaint) = line_of (codes "rest") (complaint.place ∷ [])
answer_text _ = []

module _ (plan : Plan) where
  -- plan, then how many models, workers, workers to a group and parts to a tick
  abbrev pub sizes_text : List ℕ
  sizes_text = line_of (codes "plan") (plan.set.sizes.models ∷ (plan.set.sizes.workers ∷ (plan.set.sizes.group_size ∷ (plan.set.sizes.grain ∷ []))))

  -- load, worker, parts
  abbrev pub load_text : ℕ → List ℕ
  load_text p = line_of (codes "load") ((p + 1) ∷ (slice_index plan.loads p ∷ []))

  abbrev pub loads_text : List ℕ
  loads_text = flat_map load_text (range_with_len 0 plan.set.sizes.workers)

  abbrev pub model_text : ℕ → List ℕ
  model_text i = pieces_text (i + 1) (pieces_at plan.pieces i)

  abbrev pub models_text : List ℕ
  models_text = flat_map model_text (range_with_len 0 plan.set.sizes.models)

  -- all of it, with the answers to one advance of each group
  abbrev pub plan_text : List Answer → List ℕ
  plan_text answers = sizes_text ++ (loads_text ++ (models_text ++ (flat_map answer_text answers ++ line_of (codes "end") [])))
