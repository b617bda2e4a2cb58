-- Words that are cut off a text one by one, from its front or from its end.
use Rattle.std.specs.Prelude.{ℕ, ◌-◌, Bool, not, nat_eq, if◌then◌else◌, List, length, take, drop, Option, None, Some}
use Rattle.std.specs.List.{prefix_len, suffix_len}
use Rattle.dn_word.specs.Words.{is_blank}

abbrev pub is_in_word : ℕ → Bool
is_in_word byte = not (is_blank byte)

-- a text without the blanks at its front
unfoldable pub behind_blanks : List ℕ → List ℕ
behind_blanks text = drop (prefix_len is_blank text) text

-- a text without the blanks at its end
unfoldable pub before_blanks : List ℕ → List ℕ
before_blanks text = take (length text - suffix_len is_blank text) text

-- a text without the blanks at its front and its end
abbrev pub trimmed : List ℕ → List ℕ
trimmed text = before_blanks (behind_blanks text)

-- the parts before and behind a place, where so many bytes of a word stand on one side of it; none where none do
abbrev pub parts_at : ℕ → ℕ → List ℕ → Option (List ℕ × List ℕ)
parts_at len place text = if nat_eq len 0 then None else Some (take place text, drop place text)

-- the first word of a text, and what stands behind it; none where there are only blanks
unfoldable pub cut_word : List ℕ → Option (List ℕ × List ℕ)
cut_word text = let rest = behind_blanks text in parts_at (prefix_len is_in_word rest) (prefix_len is_in_word rest) rest

-- what stands before the last word of a text, and that word; none where there are only blanks
unfoldable pub cut_last_word : List ℕ → Option (List ℕ × List ℕ)
cut_last_word text =
    let front = before_blanks text in
    parts_at (suffix_len is_in_word front) (length front - suffix_len is_in_word front) front
