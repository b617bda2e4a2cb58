-- The data that a text spells (RFC 1035 5.1, RFC 3597 5).
use Rattle.std.specs.Prelude.{ℕ, Bool, false, nat_eq, if◌then◌else◌, List, [], ◌∷◌, length, drop, Option, None, Some}
use Rattle.dn_io.specs.Options.{◌>>=◌}
use Rattle.dn_text.specs.Fields.{fields_of}
use Rattle.dn_text.specs.Strings.{strings_of}
use Rattle.dn_text.specs.Table.{Form, Words, Texts, TwoTexts, form_of}

-- the bytes are one string behind its length byte
abbrev pub is_one_string : List ℕ → Bool
is_one_string [] = false
is_one_string (len ∷ bytes) = nat_eq len (length bytes)

-- the bytes are two strings, each behind its length byte
abbrev pub are_two_strings : List ℕ → Bool
are_two_strings [] = false
are_two_strings (len ∷ bytes) = is_one_string (drop len bytes)

-- the two strings that a text spells
unfoldable pub two_strings_of : List ℕ → Option (List ℕ)
two_strings_of text = do
  bytes ← strings_of text
  if are_two_strings bytes then Some bytes else None

unfoldable pub formed_data : Form → List ℕ → Option (List ℕ)
formed_data (Words fields) text = fields_of fields text
formed_data Texts text = strings_of text
formed_data TwoTexts text = two_strings_of text

-- the data of a type that a text spells, by the form of the type
unfoldable pub rdata_of_text : ℕ → List ℕ → Option (List ℕ)
rdata_of_text rtype text = formed_data (form_of rtype) text
