-- What `show` writes is packed into the same bytes, and what `pack` writes is shown as the same value.
use Rattle.std.specs.Prelude.{ℕ, ◌<◌, List, Some}
use Rattle.std.specs.List.{AllByRecursion}
use Rattle.dn_property.specs.FirstFault.{FirstFaultIsOne as FirstPropertyFaultIsOne}
use Rattle.dn_property.specs.Laws.{HasOneSpelling, IsSpelledOnce}
use Rattle.dn_record.specs.FirstFault.{FirstFaultIsOne}
use Rattle.dn_record.specs.Layout.{RecordIsReadOnce, RecordIsWrittenOnce}
use Rattle.dn_property.specs.Ranges.{PropertiesAreInRange}
use Rattle.dn_record.specs.Ranges.{RecordsAreInRange}
use Rattle.dn_word.specs.Print.{as_line}
use Rattle.dn_lines.specs.declared.value.Stored.{Stored}
use Rattle.dn_lines.specs.declared.value.Stored.TheVariants as stored
use Rattle.dn_lines.specs.declared.value.Value.{Value}
use Rattle.dn_lines.specs.Values.{IsPacked, IsShown, IsValue, stored_text, value_text}

abbrev pub bytes_in : Stored → List ℕ
bytes_in (stored.Record bytes) = bytes
bytes_in (stored.Property bytes) = bytes

-- the line that is shown of a value's bytes is packed into the line of these bytes, in lower case
abbrev pub ShownIsPacked : Type 0
ShownIsPacked = (bytes : Stored) (value : Value) → AllByRecursion (λ byte. byte < 256) (bytes_in bytes) → IsValue bytes value
    → IsPacked (value_text value) (Some (as_line (stored_text bytes)))

-- the line of a value's bytes is shown as the printed line of this value
abbrev pub PackedIsShown : Type 0
PackedIsShown = (bytes : Stored) (value : Value) → AllByRecursion (λ byte. byte < 256) (bytes_in bytes) → IsValue bytes value
    → IsShown (stored_text bytes) (Some (as_line (value_text value)))

-- what the crates below say of stored values: bytes are one at most, a value has one spelling, what is wrong
-- first is one, and what bytes are is within the widths of its fields
pub record Laws : Type 0 where
  pub read_once : RecordIsReadOnce
  pub written_once : RecordIsWrittenOnce
  pub record_faults : FirstFaultIsOne
  pub spelled_once : IsSpelledOnce
  pub one_spelling : HasOneSpelling
  pub property_faults : FirstPropertyFaultIsOne
  pub records_fit : RecordsAreInRange
  pub properties_fit : PropertiesAreInRange
