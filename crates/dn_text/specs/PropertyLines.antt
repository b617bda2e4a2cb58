-- The line of a stored property: `property ID name_length=N flag=N content=HEX tail=HEX`.
use Rattle.std.specs.Prelude.{◌≡◌, ℕ, Bool, ◌-◌, ◌^◌, ◌&&◌, nat_le, if◌then◌else◌, List, ◌++◌, codes, length, Option, None, Some}
use Rattle.dn_io.specs.Options.{◌>>=◌}
use Rattle.dn_property.specs.Ranges.{IsInRange}
use Rattle.dn_property.specs.declared.property.Property.{Property}
use Rattle.dn_word.specs.Hex.{bytes_of_hex, hex_text}
use Rattle.dn_word.specs.Numbers.{number_within}
use Rattle.dn_word.specs.Print.{count_text}
use Rattle.dn_text.specs.Fields.{digits_of, digits_text}
use Rattle.dn_text.specs.Labelled.{behind_label, number_behind, word_behind}
use Rattle.dn_text.specs.declared.property_lines.Labels.{Labels}
use Rattle.dn_text.specs.PropertyTable.{id_named, id_text}

-- ---- printing

-- the line of a property; no content is `-`
unfoldable pub property_text : Property → List ℕ
property_text item =
    codes "property " ++ id_text item.id ++ count_text (codes " name_length=") item.name_length ++ count_text (codes " flag=") item.flag
    ++ codes " content=" ++ digits_text item.content ++ codes " tail=" ++ hex_text item.tail

-- ---- reading

abbrev pub or_number : Option ℕ → List ℕ → Option ℕ
or_number None word = number_within (2 ^ 32 - 1) word
or_number (Some id) word = Some id

-- the property that a word stands for, by its name or its number
unfoldable pub id_of_word : List ℕ → Option ℕ
id_of_word word = or_number (id_named word) word

-- the property that a line is about, and what stands behind it
unfoldable pub id_behind : List ℕ → Option (ℕ × List ℕ)
id_behind line = do
  word ← word_behind (codes "property ") line
  id ← id_of_word word.0
  Some (id, word.1)

-- what a property's line says before its content, and what stands behind that
unfoldable pub labels_of : List ℕ → Option (Labels × List ℕ)
labels_of line = do
  id ← id_behind line
  name_length ← number_behind (codes "name_length=") (2 ^ 32 - 1) id.1
  flag ← number_behind (codes "flag=") (2 ^ 32 - 1) name_length.1
  Some (record { id = id.0; name_length = name_length.0; flag = flag.0 }, flag.1)

-- that, the word of the content, and the digits of the tail
unfoldable pub texts_of : List ℕ → Option (Labels × List ℕ × List ℕ)
texts_of line = do
  labels ← labels_of line
  content ← word_behind (codes "content=") labels.1
  tail ← behind_label (codes "tail=") content.1
  Some (labels.0, content.0, tail)

-- 1 to 4 bytes
abbrev pub is_tail : List ℕ → Bool
is_tail bytes = nat_le 1 (length bytes) && nat_le (length bytes) 4

-- the bytes of a tail
unfoldable pub tail_of : List ℕ → Option (List ℕ)
tail_of digits = do
  tail ← bytes_of_hex digits
  if is_tail tail then Some tail else None

abbrev pub property_with : Labels → List ℕ → List ℕ → Property
property_with labels content tail =
    record { name_length = labels.name_length; flag = labels.flag; id = labels.id; content = content; tail = tail }

-- the property that a line is
unfoldable pub property_of_text : List ℕ → Option Property
property_of_text line = do
  found ← texts_of line
  content ← digits_of found.1
  tail ← tail_of found.2
  Some (property_with found.0 content tail)

-- ---- the law

-- a property is read back from its line
abbrev pub PropertiesAreReadBack : Type 0
PropertiesAreReadBack = (item : Property) → IsInRange item → property_of_text (property_text item) ≡ Some item
