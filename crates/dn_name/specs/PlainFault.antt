-- What is wrong first where no name without pointers stands (RFC 1035 2.3.4 and 3.1), read from the front.
use Rattle.std.specs.Prelude.{◌≡◌, ℕ, ◌+◌, ◌≤◌, ◌<◌, List, ◌∷◌, ◌++◌, length, drop}
use Rattle.std.specs.List.{AllByRecursion}
use Rattle.dn_name.specs.Name.{Labels, IsLabel, IsName, wire_len, wire_of}
use Rattle.dn_name.specs.declared.error.NameFault.{NameFault}
use Rattle.dn_name.specs.declared.error.NameFault.TheVariants.{Short, LabelTooLong, NameTooLong}

-- `PlainFault message at size kind place`: at the place `at`, behind labels that take `size` bytes with a zero byte, this
-- fault comes first.
-- * The message ends before a length byte, or inside a label: Short at its end.
-- * A length byte of 64 or more, those of pointers among them: LabelTooLong at that byte.
-- * A label with which the name would pass 255 bytes, whether or not the message has all of it: NameTooLong at its length byte.
pub data PlainFault (message : List ℕ) : ℕ → ℕ → NameFault → ℕ → Type 0 where
  Ended : {at size : ℕ} → length (drop at message) ≡ 0 → PlainFault message at size Short (length message)
  TooLong : {at size : ℕ} (byte : ℕ) (rest : List ℕ) → drop at message ≡ byte ∷ rest → 64 ≤ byte → PlainFault message at size LabelTooLong at
  TooMany : {at size : ℕ} (len : ℕ) (rest : List ℕ) → drop at message ≡ len ∷ rest → 1 ≤ len → len ≤ 63 → 255 < size + len + 1
      → PlainFault message at size NameTooLong at
  Cut : {at size : ℕ} (len : ℕ) (rest : List ℕ) → drop at message ≡ len ∷ rest → 1 ≤ len → len ≤ 63 → size + len + 1 ≤ 255 → length rest < len
      → PlainFault message at size Short (length message)
  Later : {at size place : ℕ} {kind : NameFault} (label rest : List ℕ) → IsLabel label → drop at message ≡ (length label ∷ label) ++ rest
      → size + length label + 1 ≤ 255 → PlainFault message (at + 1 + length label) (size + length label + 1) kind place
      → PlainFault message at size kind place

-- what is wrong first with the name without pointers at a place; nothing of it is read yet, and its zero byte is one byte
abbrev pub IsPlainFault : List ℕ → ℕ → NameFault → ℕ → Type 0
IsPlainFault message at kind place = PlainFault message at 1 kind place

-- at a place no labels stand that make a whole name of those that take `size` bytes with a zero byte
abbrev pub NoneStands : List ℕ → ℕ → ℕ → Type 0
NoneStands message at size = (name : Labels) (rest : List ℕ) → AllByRecursion IsLabel name → size + wire_len name ≤ 256 → drop at message ≡ wire_of name ++ rest → ⊥

-- where something is wrong with the name without pointers at a place, none stands there
abbrev pub PlainFaultIsNoName : Type 0
PlainFaultIsNoName = (message : List ℕ) (at place : ℕ) (kind : NameFault) (name : Labels) (rest : List ℕ) → IsPlainFault message at kind place
    → IsName name → drop at message ≡ wire_of name ++ rest → ⊥

-- the first fault is one: one kind, and one place
abbrev pub PlainFaultIsOne : Type 0
PlainFaultIsOne = (message : List ℕ) (at place other : ℕ) (kind another : NameFault) → IsPlainFault message at kind place → IsPlainFault message at another other
    → (kind ≡ another) × (place ≡ other)
