-- What a property always is in code, and a definition has to be told: its numbers are within their widths, its content and its tail are
-- bytes, and the tail has 1 to 4 of them.
use Rattle.std.specs.Prelude.{ℕ, ◌^◌, ◌<◌, ◌≤◌, List, length}
use Rattle.std.specs.List.{AllByRecursion}
use Rattle.dn_property.specs.declared.property.Property.{Property}
use Rattle.dn_property.specs.Stored.{IsProperty}

abbrev pub AreBytes : List ℕ → Type 0
AreBytes bytes = AllByRecursion (λ byte. byte < 256) bytes

pub record IsInRange (item : Property) : Type 0 where
  pub name_length_fits : item.name_length < 2 ^ 32
  pub flag_fits : item.flag < 2 ^ 32
  pub id_fits : item.id < 2 ^ 32
  pub content_are_bytes : AreBytes item.content
  pub tail_are_bytes : AreBytes item.tail
  pub tail_least : 1 ≤ length item.tail
  pub tail_most : length item.tail ≤ 4

-- the property that bytes are is within the widths of its fields, and its content is as long as a number of 32 bits can say
abbrev pub PropertiesAreInRange : Type 0
PropertiesAreInRange = (bytes : List ℕ) (item : Property) → AreBytes bytes → IsProperty bytes item → IsInRange item × (length item.content < 2 ^ 32)
