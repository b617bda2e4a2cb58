-- Lines that do nothing.
use Rattle.std.specs.Prelude.{ℕ, Bool, false, ◌||◌, nat_eq, List, [], ◌∷◌, length}
use Rattle.dn_word.specs.Words.{words_of}

-- A line does nothing where it has no words or begins with `#` (35).
abbrev pub is_comment : List ℕ → Bool
is_comment [] = false
is_comment (byte ∷ line) = nat_eq byte 35

unfoldable pub does_nothing : List ℕ → Bool
does_nothing line = is_comment line || nat_eq (length (words_of line)) 0
