-- How a query is read: what each reader of a part gives, and what the records that are left complete.
use Rattle.std.specs.Prelude.{◌≡◌, ℕ, ◌+◌, ◌/◌, ◌%◌, Bool, ◌||◌, nat_eq, if◌then◌else◌, List, [], ◌++◌, length, Option, None, Some, Result, Ok, Err}
use Rattle.std.specs.List.{filter, list_any}
use Rattle.dn_name.specs.Spelled.{Spelled}
use Rattle.dn_rdata.specs.Laid.{Stands}
use Rattle.dn_message.specs.declared.additional.Seen.{Seen}
use Rattle.dn_message.specs.declared.error.FormError.{FormError}
use Rattle.dn_message.specs.declared.header.QueryHeader.{QueryHeader}
use Rattle.dn_message.specs.declared.query.Opt.{Opt}
use Rattle.dn_message.specs.declared.record.RecordHead.{RecordHead}
use Rattle.dn_message.specs.declared.rr.Rr.{Rr}
use Rattle.dn_message.specs.Fields.{two_bytes}
use Rattle.dn_message.specs.Header.{IsHeader}
use Rattle.dn_message.specs.Query.{HasOpt, is_opt, is_signature}
use Rattle.dn_message.specs.Record.{AreRrs, IsRr, any_data, fields}

-- ---- the header and the question

-- one question, no answer, no authority record
abbrev pub IsQueryCounts : List ℕ → Type 0
IsQueryCounts message = Stands message 4 (two_bytes 1) 6 × Stands message 6 (two_bytes 0) 8 × Stands message 8 (two_bytes 0) 10

abbrev pub IsQueryHeader : List ℕ → QueryHeader → Type 0
IsQueryHeader message header = IsHeader message header.id header.flags 1 0 0 header.additional

abbrev pub IsTypeAndClass : List ℕ → ℕ → ℕ × ℕ → Type 0
IsTypeAndClass message at found = Stands message at (two_bytes found.0 ++ two_bytes found.1) (at + 4)

-- ---- a record

-- what stands before the data
pub record IsHead (message : List ℕ) (at : ℕ) (head : RecordHead) (place : ℕ) : Type 0 where
  pub behind : ℕ
  pub name_spelled : Spelled message at head.name behind
  pub fields_stand : Stands message behind (fields head.rtype head.rclass head.ttl head.len) (behind + 10)
  pub place_is : place ≡ behind + 10

abbrev pub head_of : Rr → ℕ → RecordHead
head_of row len = record { name = row.name; rtype = row.rtype; rclass = row.rclass; ttl = row.ttl; len = len }

-- one record whose data are any bytes stands at the place, with this head, or none does
pub record PassesOne (message : List ℕ) (at : ℕ) (head : RecordHead) (next : ℕ) : Type 0 where
  pub row : Rr
  pub is : IsRr any_data message at row next
  pub head_is : head ≡ head_of row is.len
  pub only : (other : Rr × ℕ) → IsRr any_data message at other.0 other.1 → other ≡ (row, next)

abbrev pub Passes : List ℕ → ℕ → Result (RecordHead × ℕ) FormError → Type 0
Passes message at (Ok found) = PassesOne message at found.0 found.1
Passes message at (Err error) = (other : Rr × ℕ) → IsRr any_data message at other.0 other.1 → ⊥

-- ---- the additional records

abbrev pub has_signature : Bool → List Rr → Bool
has_signature seen rows = seen || list_any is_signature rows

-- an OPT record was seen and none follows, or none was seen
abbrev pub FindsOpt : Option Opt → List Rr → Option Opt → Type 0
FindsOpt None opts found = HasOpt opts found
FindsOpt (Some opt) opts found = (opts ≡ []) × (found ≡ Some opt)

-- so many records from a place on are the last of the message, and complete what was seen of those before them
pub record Completes (message : List ℕ) (count at : ℕ) (seen final : Seen) : Type 0 where
  pub rows : List Rr
  pub count_is : length rows ≡ count
  pub stand : AreRrs any_data message at rows (length message)
  pub opt_is : FindsOpt seen.opt (filter is_opt rows) final.opt
  pub signed_is : final.signed ≡ has_signature seen.signed rows

-- what was seen, with one record more; none at a second OPT record
abbrev pub first_opt : Option Opt → Seen → Option Seen
first_opt None seen = Some seen
first_opt (Some opt) seen = None

abbrev pub saw : Seen → ℕ → ℕ → ℕ → Option Seen
saw seen rtype rclass ttl =
    if nat_eq rtype 41 then first_opt seen.opt (record { opt = Some (record { size = rclass; version = ttl / 65536 % 256 }); signed = seen.signed })
    else Some (record { opt = seen.opt; signed = seen.signed || nat_eq rtype 250 })

-- one record more was seen
pub record SeesOne (message : List ℕ) (count at : ℕ) (old : Seen) (next : ℕ) (new : Seen) : Type 0 where
  pub goes : (final : Seen) → Completes message count next new final → Completes message (count + 1) at old final
  pub only : (final : Seen) → Completes message (count + 1) at old final → Completes message count next new final

abbrev pub Sees : List ℕ → ℕ → Seen → Result (Seen × ℕ) FormError → Type 0
Sees message at old (Ok found) = (count : ℕ) → SeesOne message count at old found.1 found.0
Sees message at old (Err error) = (count : ℕ) (final : Seen) → Completes message (count + 1) at old final → ⊥
