-- The words of a line.
use Rattle.std.specs.Prelude.{ℕ, Bool, ◌||◌, nat_eq, nat_lt, List, length, filter}
use Rattle.std.specs.List.{slice_split}
use lib.Pointwise.{pointwise}

-- a space or a tab
abbrev pub is_blank : ℕ → Bool
is_blank byte = nat_eq byte 32 || nat_eq byte 9

abbrev pub is_not_empty : List ℕ → Bool
is_not_empty word = nat_lt 0 (length word)

-- the words of a line: what stands between its blanks
unfoldable pub words_of : List ℕ → List (List ℕ)
words_of line = filter is_not_empty (slice_split is_blank line)

abbrev pub is_word : List ℕ → List ℕ → Bool
is_word text word = pointwise nat_eq text word
