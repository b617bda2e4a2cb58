-- Stored values as lines: what `show` writes of the bytes of a value, and `pack` of a value's line. Each is a relation between
-- the text of a line and its output, where None says that the line isn't valid.
use Rattle.std.specs.Prelude.{◌≡◌, ℕ, ◌+◌, ◌^◌, ◌⊎◌, true, false, nat_lt, if◌then◌else◌, List, [], ◌∷◌, ◌++◌, codes, length, Option, None, Some}
use Rattle.dn_io.specs.Options.{◌>>=◌}
use Rattle.dn_rdata.specs.Record.{stored_size}
use Rattle.dn_rdata.specs.declared.record.Record.{Record}
use Rattle.dn_record.specs.FirstFault.{FirstFault}
use Rattle.dn_record.specs.Layout.{IsRecord}
use Rattle.dn_record.specs.declared.error.RecordFault.{RecordFault}
use Rattle.dn_record.specs.declared.error.RecordFault.TheVariants as records
use Rattle.dn_property.specs.FirstFault.{FirstFault as FirstPropertyFault}
use Rattle.dn_property.specs.Stored.{IsProperty}
use Rattle.dn_property.specs.declared.property.Property.{Property}
use Rattle.dn_property.specs.declared.error.PropertyFault.{PropertyFault}
use Rattle.dn_property.specs.declared.error.PropertyFault.TheVariants as properties
use Rattle.dn_word.specs.Hex.{bytes_of_hex, hex_text}
use Rattle.dn_word.specs.Print.{as_line, count_text}
use Rattle.dn_word.specs.Words.{is_word, words_of}
use Rattle.dn_text.specs.PropertyLines.{property_of_text, property_text}
use Rattle.dn_text.specs.RecordLines.{record_of_text, record_text}
use Rattle.dn_lines.specs.declared.value.Stored.{Stored}
use Rattle.dn_lines.specs.declared.value.Stored.TheVariants as stored
use Rattle.dn_lines.specs.declared.value.Value.{Value}
use Rattle.dn_lines.specs.declared.value.Value.TheVariants as values
use Rattle.dn_lines.specs.Words.{does_nothing}

-- ---- the bytes of a value, and what they are

-- the bytes of a value of the kind that a word names
unfoldable pub stored_of_kind : List ℕ → List ℕ → Option Stored
stored_of_kind kind bytes =
    if is_word kind (codes "record") then Some (stored.Record bytes)
    else (if is_word kind (codes "property") then Some (stored.Property bytes) else None)

-- `record HEX` or `property HEX`
unfoldable pub stored_of : List (List ℕ) → Option Stored
stored_of (kind ∷ digits ∷ []) = do
  bytes ← bytes_of_hex digits
  stored_of_kind kind bytes
stored_of words = None

-- the line of a value's bytes
unfoldable pub stored_text : Stored → List ℕ
stored_text (stored.Record bytes) = codes "record " ++ hex_text bytes
stored_text (stored.Property bytes) = codes "property " ++ hex_text bytes

-- the line of a value
unfoldable pub value_text : Value → List ℕ
value_text (values.Record item) = record_text item
value_text (values.Property item) = property_text item

-- the bytes are this value
abbrev pub IsValue : Stored → Value → Type 0
IsValue (stored.Record bytes) (values.Record item) = IsRecord bytes item
IsValue (stored.Record bytes) (values.Property item) = ⊥
IsValue (stored.Property bytes) (values.Record item) = ⊥
IsValue (stored.Property bytes) (values.Property item) = IsProperty bytes item

-- ---- what is wrong with bytes that are no value

abbrev pub record_fault_name : RecordFault → List ℕ
record_fault_name records.Short = codes "Short"
record_fault_name (records.LengthDiffers said found) = codes "LengthDiffers"
record_fault_name records.BadVersion = codes "BadVersion"
record_fault_name records.BadData = codes "BadData"

-- where two lengths differ, both are told
abbrev pub lengths_text : RecordFault → List ℕ
lengths_text records.Short = []
lengths_text (records.LengthDiffers said found) = count_text (codes " said ") said ++ count_text (codes " found ") found
lengths_text records.BadVersion = []
lengths_text records.BadData = []

unfoldable pub record_fault_text : RecordFault → ℕ → List ℕ
record_fault_text kind place = codes "fault " ++ record_fault_name kind ++ count_text (codes " at ") place ++ lengths_text kind

abbrev pub property_fault_name : PropertyFault → List ℕ
property_fault_name properties.Short = codes "Short"
property_fault_name properties.BadVersion = codes "BadVersion"
property_fault_name properties.LongTail = codes "LongTail"

unfoldable pub property_fault_text : PropertyFault → ℕ → List ℕ
property_fault_text kind place = codes "fault " ++ property_fault_name kind ++ count_text (codes " at ") place

-- what is wrong first with the bytes, as text
abbrev pub IsFault : Stored → List ℕ → Type 0
IsFault (stored.Record bytes) text = (kind : RecordFault) × (place : ℕ) × FirstFault bytes kind place × (text ≡ record_fault_text kind place)
IsFault (stored.Property bytes) text = (kind : PropertyFault) × (place : ℕ) × FirstPropertyFault bytes kind place × (text ≡ property_fault_text kind place)

-- ---- `show`

-- the text of the value that the bytes are, or of what is wrong first where they are none
abbrev pub IsShownAs : Stored → List ℕ → Type 0
IsShownAs bytes text = ((value : Value) × IsValue bytes value × (text ≡ value_text value)) ⊎ IsFault bytes text

-- A line of the input of `show`: one that does nothing gives nothing, and each other one is the bytes of a value and gives a line.
abbrev pub IsShown : List ℕ → Option (List ℕ) → Type 0
IsShown line None = (does_nothing line ≡ false) × (stored_of (words_of line) ≡ None)
IsShown line (Some output) =
    ((does_nothing line ≡ true) × (output ≡ []))
    ⊎ ((does_nothing line ≡ false) × (bytes : Stored) × (text : List ℕ) × (stored_of (words_of line) ≡ Some bytes) × IsShownAs bytes text × (output ≡ as_line text))

-- ---- `pack`

-- a record fits where its stored data have at most 65,535 bytes
abbrev pub if_it_fits : Record → Option Value
if_it_fits item = if nat_lt (stored_size item) (24 + 2 ^ 16) then Some (values.Record item) else None

unfoldable pub fitting_record : List ℕ → Option Value
fitting_record line = do
  item ← record_of_text line
  if_it_fits item

-- and a property where its content has at most 4,294,967,295 bytes
abbrev pub if_property_fits : Property → Option Value
if_property_fits item = if nat_lt (length item.content) (2 ^ 32) then Some (values.Property item) else None

unfoldable pub fitting_property : List ℕ → Option Value
fitting_property line = do
  item ← property_of_text line
  if_property_fits item

abbrev pub or_property : Option Value → List ℕ → Option Value
or_property None line = fitting_property line
or_property (Some value) line = Some value

-- the value that a line is: a record or a property that fits
unfoldable pub value_of : List ℕ → Option Value
value_of line = or_property (fitting_record line) line

-- A line of the input of `pack`: one that does nothing gives nothing, and each other one is a value and gives the line of its bytes.
abbrev pub IsPacked : List ℕ → Option (List ℕ) → Type 0
IsPacked line None = (does_nothing line ≡ false) × (value_of line ≡ None)
IsPacked line (Some output) =
    ((does_nothing line ≡ true) × (output ≡ []))
    ⊎ ((does_nothing line ≡ false) × (value : Value) × (bytes : Stored) × (value_of line ≡ Some value) × IsValue bytes value × (output ≡ as_line (stored_text bytes)))
