-- How a reply is read: what each reader of a part gives.
use Rattle.std.specs.Prelude.{◌≡◌, ℕ, true, List, ◌++◌, length, Result, Ok, Err}
use Rattle.dn_rdata.specs.Laid.{Stands}
use Rattle.dn_message.specs.declared.rdata.PartError.{PartError}
use Rattle.dn_message.specs.declared.rdata.PartError.TheVariants.{Missing, OutOfMemory}
use Rattle.dn_message.specs.declared.counts.Counts.{Counts}
use Rattle.dn_message.specs.declared.header.ReplyHeader.{ReplyHeader}
use Rattle.dn_message.specs.declared.sections.Sections.{Sections}
use Rattle.dn_message.specs.Fields.{two_bytes}
use Rattle.dn_message.specs.Header.{is_reply}
use Rattle.dn_message.specs.Record.{Follow, IsRr, typed_data}
use Rattle.dn_message.specs.Reply.{IsQuestion}

-- ---- the header

-- the flags of a reply
abbrev pub AreReplyFlags : List ℕ → ℕ → Type 0
AreReplyFlags message flags = Stands message 2 (two_bytes flags) 4 × (is_reply flags ≡ true)

-- how many entries each section has
pub record AreCounts (message : List ℕ) (counts : Counts) : Type 0 where
  pub questions_stand : Stands message 4 (two_bytes counts.questions) 6
  pub answer_stands : Stands message 6 (two_bytes counts.answer) 8
  pub authority_stands : Stands message 8 (two_bytes counts.authority) 10
  pub additional_stand : Stands message 10 (two_bytes counts.additional) 12

pub record IsReplyHeader (message : List ℕ) (header : ReplyHeader) : Type 0 where
  pub number_stands : Stands message 0 (two_bytes header.id) 2
  pub flags_stand : AreReplyFlags message header.flags
  pub counts_stand : AreCounts message header.counts

-- ---- entries

-- so many of them
abbrev pub AreEntries : {Entry : Type 0} → (ℕ → Entry → ℕ → Type 0) → ℕ → ℕ → List Entry → ℕ → Type 0
AreEntries Is count at entries next = (length entries ≡ count) × Follow Is at entries next

-- the sections stand behind the header, with so many entries each, and behind them stands nothing
pub record AreSections (message : List ℕ) (counts : Counts) (sections : Sections) : Type 0 where
  pub answer_at : ℕ
  pub authority_at : ℕ
  pub additional_at : ℕ
  pub questions : AreEntries (IsQuestion message) counts.questions 12 sections.questions answer_at
  pub answer : AreEntries (IsRr typed_data message) counts.answer answer_at sections.answer authority_at
  pub authority : AreEntries (IsRr typed_data message) counts.authority authority_at sections.authority additional_at
  pub additional : AreEntries (IsRr typed_data message) counts.additional additional_at sections.additional (length message)

-- ---- the data of a record

-- the bytes of the one value were added at the end, or there is no value, or memory ran out
abbrev pub Grows : {Found Value : Type 0} → (List ℕ → Found → Value) → (Value → Type 0) → List ℕ → List ℕ → Result Found PartError → Type 0
Grows value IsValue old new (Ok found) =
    (piece : List ℕ) × (new ≡ old ++ piece) × IsValue (value piece found) × ((other : _) → IsValue other → other ≡ value piece found)
Grows value IsValue old new (Err Missing) = (other : _) → IsValue other → ⊥
Grows value IsValue old new (Err OutOfMemory) = Unit {0}
