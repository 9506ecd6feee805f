-- What a line says.
--     spaced n      a space and n in decimal digits
--     line_of tag numbers      the tag, each number behind a space, and the end of the line
use Rattle.std.specs.Prelude.{ℕ, List, [], ◌∷◌, ◌++◌, decimal}
use Rattle.std.specs.List.{flat_map}

abbrev pub spaced : ℕ → List ℕ
spaced n = 32 ∷ decimal n

abbrev pub line_of : List ℕ → List ℕ → List ℕ
line_of tag numbers = tag ++ (flat_map spaced numbers ++ (10 ∷ []))
