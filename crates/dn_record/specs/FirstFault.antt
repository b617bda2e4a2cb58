-- What is wrong first where bytes are no stored record, by the order in which it is tested.
use Rattle.std.specs.Prelude.{◌≡◌, ◌≢◌, ℕ, ◌<◌, List, ◌++◌, length}
use Rattle.dn_rdata.specs.Stored.{IsStored}
use Rattle.dn_rdata.specs.declared.record.Record.{Record}
use Rattle.dn_record.specs.declared.error.RecordFault.{RecordFault}
use Rattle.dn_record.specs.declared.error.RecordFault.TheVariants.{Short, LengthDiffers, BadVersion, BadData}
use Rattle.dn_record.specs.declared.header.Kind.{Kind}
use Rattle.dn_record.specs.declared.header.Numbers.{Numbers}
use Rattle.dn_record.specs.Header.{kind_bytes, numbers_bytes}
use Rattle.dn_record.specs.Layout.{IsRecord}

-- * The header is cut: Short at the end.
-- * It says another number of bytes of data than stand behind it: LengthDiffers at the first byte, with both numbers.
-- * The version isn't 5: BadVersion at the version.
-- * The data aren't the stored form of any data of the type: BadData at their first byte.
pub data FirstFault (bytes : List ℕ) : RecordFault → ℕ → Type 0 where
  CutHeader : length bytes < 24 → FirstFault bytes Short (length bytes)
  OtherLength : (kind : Kind) (numbers : Numbers) (stored : List ℕ) → bytes ≡ kind_bytes kind ++ (numbers_bytes numbers ++ stored)
      → kind.len ≢ length stored → FirstFault bytes (LengthDiffers kind.len (length stored)) 0
  OtherVersion : (kind : Kind) (numbers : Numbers) (stored : List ℕ) → bytes ≡ kind_bytes kind ++ (numbers_bytes numbers ++ stored)
      → kind.len ≡ length stored → kind.version ≢ 5 → FirstFault bytes BadVersion 4
  BadForm : (kind : Kind) (numbers : Numbers) (stored : List ℕ) → bytes ≡ kind_bytes kind ++ (numbers_bytes numbers ++ stored)
      → kind.len ≡ length stored → kind.version ≡ 5 → ((rdata : List ℕ) → IsStored kind.rtype stored rdata → ⊥) → FirstFault bytes BadData 24

-- what is wrong first has one kind and one place, and bytes with which something is wrong are no stored record
pub record FirstFaultIsOne : Type 0 where
  pub one : (bytes : List ℕ) (kind another : RecordFault) (place other : ℕ) → FirstFault bytes kind place → FirstFault bytes another other
      → (kind ≡ another) × (place ≡ other)
  pub none : (bytes : List ℕ) (kind : RecordFault) (place : ℕ) (item : Record) → FirstFault bytes kind place → IsRecord bytes item → ⊥
