-- The parts of a stored property.
use Rattle.std.specs.Prelude.{◌≡◌, ℕ, ◌≤◌, List, ◌++◌, length}
use Rattle.dn_property.specs.declared.property.Property.{Property}
use Rattle.dn_property.specs.declared.stored.Head.{Head}
use Rattle.dn_property.specs.Stored.{head_bytes}

-- the bytes are a head of version 1, the content that it counts, and a tail
pub record IsSplit (bytes : List ℕ) (head : Head) (content tail : List ℕ) : Type 0 where
  pub bytes_are : bytes ≡ head_bytes head ++ (content ++ tail)
  pub version : head.version ≡ 1
  pub len : head.data_length ≡ length content
  pub tail_least : 1 ≤ length tail
  pub tail_most : length tail ≤ 4

-- the property of a head, a content and a tail
abbrev pub joined : Head → List ℕ → List ℕ → Property
joined head content tail = record { name_length = head.name_length; flag = head.flag; id = head.id; content = content; tail = tail }
