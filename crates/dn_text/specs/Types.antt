-- The types that a word stands for.
use Rattle.std.specs.Prelude.{ℕ, ◌-◌, ◌^◌, Bool, ◌||◌, if◌then◌else◌, List, codes, take, drop, Option, None, Some}
use Rattle.dn_rdata.specs.Types.{ANY, AXFR}
use Rattle.dn_word.specs.Numbers.{number_within}
use Rattle.dn_text.specs.Table.{type_named}
use Rattle.dn_word.specs.Words.{is_word}

-- the type A, by its name or its number
unfoldable pub is_type_a : List ℕ → Bool
is_type_a word = is_word word (codes "A") || is_word word (codes "TYPE1")

-- the number behind `TYPE`
unfoldable pub type_numbered : List ℕ → Option ℕ
type_numbered word = if is_word (take 4 word) (codes "TYPE") then number_within (2 ^ 16 - 1) (drop 4 word) else None

-- the type of a question that no record has
unfoldable pub question_type : List ℕ → Option ℕ
question_type word = if is_word word (codes "ANY") then Some ANY else (if is_word word (codes "AXFR") then Some AXFR else type_numbered word)

abbrev pub or_question : Option ℕ → List ℕ → Option ℕ
or_question None word = question_type word
or_question (Some rtype) word = Some rtype

-- The type that a word stands for: the one that has this name, `ANY` or `AXFR`, or `TYPE` and its number, whether it has a
-- name or not.
unfoldable pub type_of : List ℕ → Option ℕ
type_of word = or_question (type_named word) word
