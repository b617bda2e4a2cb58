-- The words of the text of data, one a field, with a space between each two (RFC 1035 5.1).
use Rattle.std.specs.Prelude.{ℕ, ◌-◌, ◌^◌, nat_eq, if◌then◌else◌, List, [], ◌∷◌, ◌++◌, codes, decimal, length, take, drop, Option, None, Some, option_map}
use Rattle.std.specs.Int.{w16, w32, w64, from_be_bytes, from_le_bytes, to_be_bytes, to_le_bytes}
use Rattle.std.specs.List.{slice_split}
use Rattle.dn_io.specs.Options.{◌>>=◌}
use Rattle.dn_name.specs.Name.{Labels, wire_of}
use Rattle.dn_name.specs.Text.{text_of}
use Rattle.dn_name.specs.Wire.{plain_name}
use Rattle.dn_word.specs.Addresses.{address_of, dotted_decimals}
use Rattle.dn_word.specs.Hex.{bytes_of_hex, hex_text}
use Rattle.dn_text.specs.LongAddresses.{groups_text, long_address_of}
use Rattle.dn_word.specs.Names.{name_word}
use Rattle.dn_word.specs.Numbers.{number_within}
use Rattle.dn_word.specs.Words.{is_word}
use Rattle.dn_text.specs.declared.table.Field.{Field}
use Rattle.dn_text.specs.declared.table.Field.TheVariants.{Digits, FourBytes, Groups, OneName, Short, Long, Ticks}

-- ---- printing

abbrev pub one_name_text : Option (Labels × List ℕ) → List ℕ
one_name_text None = []
one_name_text (Some found) = text_of found.0

-- the name at the front of bytes
unfoldable pub name_text : List ℕ → List ℕ
name_text bytes = one_name_text (plain_name bytes)

-- bytes as hex digits, `-` where there are none
unfoldable pub digits_text : List ℕ → List ℕ
digits_text bytes = if nat_eq (length bytes) 0 then codes "-" else hex_text bytes

-- the word of a field at the front of bytes
unfoldable pub field_text : Field → List ℕ → List ℕ
field_text Ticks bytes = decimal (from_le_bytes w64 bytes)
field_text FourBytes bytes = dotted_decimals (take 4 bytes)
field_text Groups bytes = groups_text (take 16 bytes)
field_text OneName bytes = name_text bytes
field_text Short bytes = decimal (from_be_bytes w16 bytes)
field_text Long bytes = decimal (from_be_bytes w32 bytes)
field_text Digits bytes = digits_text bytes

abbrev pub behind_found : Option (Labels × List ℕ) → List ℕ
behind_found None = []
behind_found (Some found) = found.1

-- the bytes behind a field
unfoldable pub behind_field : Field → List ℕ → List ℕ
behind_field Ticks bytes = drop 8 bytes
behind_field FourBytes bytes = drop 4 bytes
behind_field Groups bytes = drop 16 bytes
behind_field OneName bytes = behind_found (plain_name bytes)
behind_field Short bytes = drop 2 bytes
behind_field Long bytes = drop 4 bytes
behind_field Digits bytes = []

-- the words of fields, each behind a space
unfoldable pub fields_behind : List Field → List ℕ → List ℕ
fields_behind [] bytes = []
fields_behind (field ∷ fields) bytes = codes " " ++ field_text field bytes ++ fields_behind fields (behind_field field bytes)

-- the words of fields, with a space between each two
unfoldable pub fields_text : List Field → List ℕ → List ℕ
fields_text [] bytes = []
fields_text (field ∷ fields) bytes = field_text field bytes ++ fields_behind fields (behind_field field bytes)

-- ---- reading

-- the number that a word is, as so many bytes
unfoldable pub ticks_of : List ℕ → Option (List ℕ)
ticks_of word = option_map (λ ticks. to_le_bytes w64 ticks) (number_within (2 ^ 64 - 1) word)

unfoldable pub short_of : List ℕ → Option (List ℕ)
short_of word = option_map (λ number. to_be_bytes w16 number) (number_within (2 ^ 16 - 1) word)

unfoldable pub long_of : List ℕ → Option (List ℕ)
long_of word = option_map (λ number. to_be_bytes w32 number) (number_within (2 ^ 32 - 1) word)

-- the bytes of the name that a word is
unfoldable pub wire_word : List ℕ → Option (List ℕ)
wire_word word = option_map (λ name. wire_of name) (name_word word)

-- the bytes of a word of hex digits; `-` is none, and no word is no bytes
unfoldable pub digits_of : List ℕ → Option (List ℕ)
digits_of word =
    if is_word word (codes "-") then Some []
    else (if nat_eq (length word) 0 then None else bytes_of_hex word)

-- the bytes of a field that a word is
unfoldable pub field_of : Field → List ℕ → Option (List ℕ)
field_of Ticks word = ticks_of word
field_of FourBytes word = address_of word
field_of Groups word = long_address_of word
field_of OneName word = wire_word word
field_of Short word = short_of word
field_of Long word = long_of word
field_of Digits word = digits_of word

-- the bytes of fields behind others, where each word is a field
unfoldable pub fields_from : List ℕ → List Field → List (List ℕ) → Option (List ℕ)
fields_from done [] [] = Some done
fields_from done [] (word ∷ words) = None
fields_from done (field ∷ fields) [] = None
fields_from done (field ∷ fields) (word ∷ words) = do
  piece ← field_of field word
  fields_from (done ++ piece) fields words

-- the bytes of the fields that a text has, with one space between each two
unfoldable pub fields_of : List Field → List ℕ → Option (List ℕ)
fields_of fields text = fields_from [] fields (slice_split (λ byte. nat_eq byte 32) text)
