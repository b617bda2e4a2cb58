-- What is wrong first where bytes are no property, by the order in which they are tested.
use Rattle.std.specs.Prelude.{◌≡◌, ◌≢◌, ℕ, ◌+◌, ◌<◌, ◌≤◌, List, ◌++◌, length}
use Rattle.dn_property.specs.declared.error.PropertyFault.{PropertyFault}
use Rattle.dn_property.specs.declared.error.PropertyFault.TheVariants.{Short, BadVersion, LongTail}
use Rattle.dn_property.specs.declared.property.Property.{Property}
use Rattle.dn_property.specs.declared.stored.Head.{Head}
use Rattle.dn_property.specs.Stored.{IsProperty, head_bytes}

-- * The head is cut: Short at the end.
-- * The version isn't 1: BadVersion at the version.
-- * The content, or the byte behind it, is cut: Short at the end.
-- * More than four bytes stand behind the content: LongTail at the fifth.
pub data FirstFault (bytes : List ℕ) : PropertyFault → ℕ → Type 0 where
  CutHead : length bytes < 20 → FirstFault bytes Short (length bytes)
  OtherVersion : (head : Head) (rest : List ℕ) → bytes ≡ head_bytes head ++ rest → head.version ≢ 1 → FirstFault bytes BadVersion 12
  CutContent : (head : Head) (rest : List ℕ) → bytes ≡ head_bytes head ++ rest → head.version ≡ 1 → length rest ≤ head.data_length
      → FirstFault bytes Short (length bytes)
  BehindTail : (head : Head) (rest : List ℕ) → bytes ≡ head_bytes head ++ rest → head.version ≡ 1 → head.data_length + 4 < length rest
      → FirstFault bytes LongTail (20 + head.data_length + 4)

-- what is wrong first has one kind and one place, and bytes with which something is wrong are no property
pub record FirstFaultIsOne : Type 0 where
  pub one : (bytes : List ℕ) (kind another : PropertyFault) (place other : ℕ) → FirstFault bytes kind place → FirstFault bytes another other
      → (kind ≡ another) × (place ≡ other)
  pub none : (bytes : List ℕ) (kind : PropertyFault) (place : ℕ) (property : Property) → FirstFault bytes kind place → IsProperty bytes property → ⊥
