-- How a property is stored (MS-DNSP 2.3.2.1): five numbers of four bytes, the content, and a tail, which in this
-- project's profile has 1 to 4 bytes.
use Rattle.std.specs.Prelude.{◌≡◌, ℕ, ◌≤◌, List, ◌++◌, length}
use Rattle.dn_property.specs.declared.property.Property.{Property}
use Rattle.dn_property.specs.declared.stored.Head.{Head}
use Rattle.dn_property.specs.Numbers.{four_little}

-- the five numbers, one behind another: DataLength, NameLength, Flag, Version and Id
abbrev pub head_bytes : Head → List ℕ
head_bytes head =
    four_little head.data_length ++ (four_little head.name_length ++ (four_little head.flag ++ (four_little head.version ++ four_little head.id)))

-- the head of a property: its DataLength counts the content, and its version is 1
abbrev pub head_of : Property → Head
head_of property =
    record { data_length = length property.content; name_length = property.name_length; flag = property.flag; version = 1; id = property.id }

-- all the bytes are this property
pub record IsProperty (bytes : List ℕ) (property : Property) : Type 0 where
  pub layout : bytes ≡ head_bytes (head_of property) ++ (property.content ++ property.tail)
  pub tail_least : 1 ≤ length property.tail
  pub tail_most : length property.tail ≤ 4
