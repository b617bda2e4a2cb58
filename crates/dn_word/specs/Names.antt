-- Names as words.
use Rattle.std.specs.Prelude.{ℕ, List, Option}
use Rattle.dn_name.specs.Name.{Labels}
use Rattle.dn_name.specs.Text.{name_of_text}

-- the name that a word is
unfoldable pub name_word : List ℕ → Option Labels
name_word word = name_of_text word
