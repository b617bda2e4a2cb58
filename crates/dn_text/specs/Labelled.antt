-- Words behind labels, as `ttl=3600`, in a line that has one space between each two words.
use Rattle.std.specs.Prelude.{ℕ, nat_eq, if◌then◌else◌, List, [], ◌∷◌, length, take, drop, Option, None, Some}
use Rattle.dn_io.specs.Options.{◌>>=◌}
use Rattle.dn_word.specs.Numbers.{number_within}
use Rattle.dn_word.specs.Words.{is_word}

-- what stands behind a label at the front of a text; none where it doesn't stand there
unfoldable pub behind_label : List ℕ → List ℕ → Option (List ℕ)
behind_label label text = if is_word (take (length label) text) label then Some (drop (length label) text) else None

-- what stands before and behind the first space; none where there is none
unfoldable pub cut_at_space : List ℕ → Option (List ℕ × List ℕ)
cut_at_space [] = None
cut_at_space (byte ∷ text) =
    if nat_eq byte 32 then Some ([], text)
    else (do
      found ← cut_at_space text
      Some (byte ∷ found.0, found.1))

-- the word behind a label, and what stands behind the space that ends it
unfoldable pub word_behind : List ℕ → List ℕ → Option (List ℕ × List ℕ)
word_behind label text = do
  rest ← behind_label label text
  cut_at_space rest

-- the number behind a label, up to `most`, and what stands behind the space that ends it
unfoldable pub number_behind : List ℕ → ℕ → List ℕ → Option (ℕ × List ℕ)
number_behind label most text = do
  found ← word_behind label text
  number ← number_within most found.0
  Some (number, found.1)
