-- What the readers of stored records give.
use Rattle.std.specs.Prelude.{◌≡◌, ℕ, List, ◌++◌, length, Result, Ok, Err}
use Rattle.dn_rdata.specs.declared.record.Record.{Record}
use Rattle.dn_record.specs.declared.error.RecordError.{RecordError}
use Rattle.dn_record.specs.declared.error.RecordReadError.{RecordReadError}
use Rattle.dn_record.specs.declared.error.RecordReadError.TheVariants.{Bad, OutOfMemory}
use Rattle.dn_record.specs.declared.header.Kind.{Kind}
use Rattle.dn_record.specs.declared.header.Numbers.{Numbers}
use Rattle.dn_record.specs.declared.view.RecordView.{RecordView}
use Rattle.dn_record.specs.FirstFault.{FirstFault}
use Rattle.dn_record.specs.Header.{kind_bytes, numbers_bytes}
use Rattle.dn_record.specs.Layout.{IsRecord, header_bytes}

-- the bytes are no stored record, and this is wrong first
abbrev pub IsFaulty : List ℕ → RecordError → Type 0
IsFaulty bytes error = ((item : Record) → IsRecord bytes item → ⊥) × FirstFault bytes error.kind error.place

-- A reader that is exact: it gives the record that the bytes are, and they are no other; where they are none it says what is
-- wrong first. Want of memory says nothing of them.
abbrev pub ReadsRecord : List ℕ → Result Record RecordReadError → Type 0
ReadsRecord bytes (Ok item) = IsRecord bytes item × ((other : Record) → IsRecord bytes other → other ≡ item)
ReadsRecord bytes (Err (Bad error)) = IsFaulty bytes error
ReadsRecord bytes (Err OutOfMemory) = Unit {0}

-- the view lends the fields of the bytes: its header, and behind it so many bytes as it says
abbrev pub IsFramed : List ℕ → RecordView → Type 0
IsFramed bytes view =
    bytes ≡ header_bytes (length view.stored.now) view.rtype view.rank view.flags view.serial view.ttl view.reserved view.hour ++ view.stored.now

-- whatever bytes begin with a header of this kind and have so many bytes behind it, this is wrong first with them
abbrev pub IsWrongFirst : Kind → ℕ → RecordError → Type 0
IsWrongFirst kind found error = (bytes stored : List ℕ) (numbers : Numbers) → bytes ≡ kind_bytes kind ++ (numbers_bytes numbers ++ stored)
    → found ≡ length stored → FirstFault bytes error.kind error.place

-- what a view lends of the record that the bytes are
pub record Lends (bytes : List ℕ) (view : RecordView) (item : Record) : Type 0 where
  pub is : IsRecord bytes item
  pub rtype_is : view.rtype ≡ item.rtype
  pub rank_is : view.rank ≡ item.rank
  pub flags_is : view.flags ≡ item.flags
  pub serial_is : view.serial ≡ item.serial
  pub ttl_is : view.ttl ≡ item.ttl
  pub reserved_is : view.reserved ≡ item.reserved
  pub hour_is : view.hour ≡ item.hour
  pub stored_is : view.stored.now ≡ is.stored

-- the view is that of the record that the bytes are; where they are none it says what is wrong first
abbrev pub ReadsView : List ℕ → Result RecordView RecordError → Type 0
ReadsView bytes (Ok view) = (item : Record) × Lends bytes view item
ReadsView bytes (Err error) = IsFaulty bytes error
