-- Lines and counts as text.
use Rattle.std.specs.Prelude.{ℕ, List, [], ◌∷◌, ◌++◌, decimal}

-- a number behind what it counts
unfoldable pub count_text : List ℕ → ℕ → List ℕ
count_text label count = label ++ decimal count

-- a line of output
abbrev pub as_line : List ℕ → List ℕ
as_line text = text ++ 10 ∷ []
