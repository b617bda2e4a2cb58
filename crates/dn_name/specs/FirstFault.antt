-- What is wrong first where no name is spelled (RFC 1035 2.3.4 and 4.1.4), read from the front.
use Rattle.std.specs.Prelude.{◌≡◌, ℕ, ◌+◌, ◌≤◌, ◌<◌, List, ◌∷◌, ◌++◌, length, drop}
use Rattle.dn_name.specs.Name.{IsLabel}
use Rattle.dn_name.specs.Spelled.{target}
use Rattle.dn_name.specs.declared.error.NameFault.{NameFault}
use Rattle.dn_name.specs.declared.error.NameFault.TheVariants.{Short, LabelTooLong, NameTooLong, BadPointer}

-- `FirstFault message start at size kind place`: behind the place `at` of the segment that begins at `start`, and behind
-- labels that take `size` bytes with a zero byte, this fault comes first.
-- * The message ends: Short at its end.
-- * A length byte of 64 to 191: LabelTooLong at that byte.
-- * A label with which the name would pass 255 bytes, whether or not the message has all of it: NameTooLong at its length byte.
-- * A pointer that doesn't lead before its segment's start: BadPointer at the pointer.
-- * A fault behind a pointer has the pointer's place.
pub data FirstFault (message : List ℕ) : ℕ → ℕ → ℕ → NameFault → ℕ → Type 0 where
  NoByte : {start at size : ℕ} → length (drop at message) ≡ 0 → FirstFault message start at size Short (length message)
  NoLength : {start at size : ℕ} (byte : ℕ) (rest : List ℕ) → drop at message ≡ byte ∷ rest → 64 ≤ byte → byte < 192 → FirstFault message start at size LabelTooLong at
  Passes : {start at size : ℕ} (len : ℕ) (rest : List ℕ) → drop at message ≡ len ∷ rest → 1 ≤ len → len ≤ 63 → 255 < size + len + 1
      → FirstFault message start at size NameTooLong at
  CutLabel : {start at size : ℕ} (len : ℕ) (rest : List ℕ) → drop at message ≡ len ∷ rest → 1 ≤ len → len ≤ 63 → size + len + 1 ≤ 255 → length rest < len
      → FirstFault message start at size Short (length message)
  After : {start at size place : ℕ} {kind : NameFault} (label rest : List ℕ) → IsLabel label → drop at message ≡ (length label ∷ label) ++ rest
      → size + length label + 1 ≤ 255 → FirstFault message start (at + 1 + length label) (size + length label + 1) kind place
      → FirstFault message start at size kind place
  CutPointer : {start at size : ℕ} (high : ℕ) (rest : List ℕ) → drop at message ≡ high ∷ rest → 192 ≤ high → length rest ≡ 0
      → FirstFault message start at size Short (length message)
  Forward : {start at size : ℕ} (high low : ℕ) (rest : List ℕ) → drop at message ≡ high ∷ (low ∷ rest) → 192 ≤ high → start ≤ target high low
      → FirstFault message start at size BadPointer at
  Behind : {start at size place : ℕ} {kind : NameFault} (high low : ℕ) (rest : List ℕ) → drop at message ≡ high ∷ (low ∷ rest) → 192 ≤ high → target high low < start
      → FirstFault message (target high low) (target high low) size kind place → FirstFault message start at size kind at

-- what is wrong first with the name at a place; nothing of it is read yet, and its zero byte is one byte
abbrev pub IsFirstFault : List ℕ → ℕ → NameFault → ℕ → Type 0
IsFirstFault message at kind place = FirstFault message at at 1 kind place

-- the first fault is one: one kind, and one place
abbrev pub FirstFaultIsOne : Type 0
FirstFaultIsOne = (message : List ℕ) (at place other : ℕ) (kind another : NameFault) → IsFirstFault message at kind place → IsFirstFault message at another other
    → (kind ≡ another) × (place ≡ other)
