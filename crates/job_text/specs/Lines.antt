-- Lines of text, as they are read and as they are printed.
use Rattle.std.specs.Prelude.{ℕ, List, [], ◌∷◌, ◌++◌}

-- words one space apart, and a line feed after the last
abbrev pub line_of : List (List ℕ) → List ℕ
line_of [] = []
line_of (w ∷ []) = w ++ (10 ∷ [])
line_of (w ∷ v ∷ ws) = w ++ (32 ∷ line_of (v ∷ ws))
