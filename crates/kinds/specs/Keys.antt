-- The keys by which things are put in order: the moment, then what breaks ties.
use Rattle.std.specs.Prelude.{List, [], ◌∷◌, ℕ}
use Rattle.kinds.specs.declared.entries.Entry.{Entry}
use Rattle.kinds.specs.declared.runs.Run.{Run}

abbrev pub keys_by_model : Run → List ℕ
keys_by_model r = r.deadline ∷ r.model ∷ []

abbrev pub keys_by_remaining : Run → List ℕ
keys_by_remaining r = r.deadline ∷ r.remaining ∷ r.model ∷ []

abbrev pub keys_by_tick : Entry → List ℕ
keys_by_tick e = e.tick ∷ e.model ∷ []
