-- The line of a value is what is shown of its bytes.
use Rattle.std.proofs.Common.{◌≡◌, ℕ, List, inl, Result, Ok, Err, IfOk}
use Rattle.dn_property.specs.declared.property.Property.{Property}
use Rattle.dn_property.specs.Stored.{IsProperty}
use Rattle.dn_rdata.specs.declared.record.Record.{Record}
use Rattle.dn_record.specs.Layout.{IsRecord}
use Rattle.dn_text.specs.PropertyLines.{property_text}
use Rattle.dn_text.specs.RecordLines.{record_text}
use Rattle.dn_lines.specs.declared.value.Stored.TheVariants as stored
use Rattle.dn_lines.specs.declared.value.Value.TheVariants as values
use Rattle.dn_lines.specs.Values.{IsShownAs, value_text}

pub record_is_shown : (bytes : List ℕ) (item : Record) {E : Type 0} (line : Result (List ℕ) E) → IsRecord bytes item → IfOk line (λ text. text ≡ record_text item)
    → IfOk line (λ text. IsShownAs (stored.Record bytes) text)
unfolding value_text
record_is_shown bytes item (Ok text) is its_text = inl (values.Record item, is, its_text)
record_is_shown bytes item (Err why) is its_text = tt

pub property_is_shown : (bytes : List ℕ) (item : Property) {E : Type 0} (line : Result (List ℕ) E) → IsProperty bytes item → IfOk line (λ text. text ≡ property_text item)
    → IfOk line (λ text. IsShownAs (stored.Property bytes) text)
unfolding value_text
property_is_shown bytes item (Ok text) is its_text = inl (values.Property item, is, its_text)
property_is_shown bytes item (Err why) is its_text = tt
