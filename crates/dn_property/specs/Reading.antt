-- What the reader of stored properties gives.
pub mod Parts
use Rattle.std.specs.Prelude.{◌≡◌, ℕ, List, Result, Ok, Err}
use Rattle.dn_property.specs.declared.error.PropertyReadError.{PropertyReadError}
use Rattle.dn_property.specs.declared.error.PropertyReadError.TheVariants.{Bad, OutOfMemory}
use Rattle.dn_property.specs.declared.property.Property.{Property}
use Rattle.dn_property.specs.FirstFault.{FirstFault}
use Rattle.dn_property.specs.Stored.{IsProperty}

-- the bytes are this property, and no other
abbrev pub IsFound : List ℕ → Property → Type 0
IsFound bytes property = IsProperty bytes property × ((other : Property) → IsProperty bytes other → other ≡ property)

-- A reader that is exact: it gives the property that the bytes are, and they are no other; where they are none it says what
-- is wrong first. Want of memory says nothing of them.
abbrev pub ReadsProperty : List ℕ → Result Property PropertyReadError → Type 0
ReadsProperty bytes (Ok property) = IsFound bytes property
ReadsProperty bytes (Err (Bad error)) = ((other : Property) → IsProperty bytes other → ⊥) × FirstFault bytes error.kind error.place
ReadsProperty bytes (Err OutOfMemory) = Unit {0}
