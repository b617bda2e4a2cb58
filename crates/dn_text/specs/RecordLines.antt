-- The line of a stored record: `record TYPE ttl=N hour=N rank=N flags=N serial=N reserved=N DATA`.
use Rattle.std.specs.Prelude.{◌≡◌, ℕ, ◌-◌, ◌^◌, nat_eq, if◌then◌else◌, List, ◌++◌, codes, Option, Some}
use Rattle.dn_io.specs.Options.{◌>>=◌}
use Rattle.dn_rdata.specs.Ranges.{IsInRange}
use Rattle.dn_rdata.specs.Layout.{IsData}
use Rattle.dn_rdata.specs.declared.record.Record.{Record}
use Rattle.dn_word.specs.Print.{count_text}
use Rattle.dn_word.specs.Words.{is_word}
use Rattle.dn_text.specs.Labelled.{number_behind, word_behind}
use Rattle.dn_text.specs.ReadData.{rdata_of_text}
use Rattle.dn_text.specs.Rows.{data_text}
use Rattle.dn_text.specs.Table.{type_text}
use Rattle.dn_text.specs.Types.{type_of}
use Rattle.dn_text.specs.declared.record_lines.Head.{Head}
use Rattle.dn_text.specs.declared.record_lines.Marks.{Marks}
use Rattle.dn_text.specs.declared.record_lines.Times.{Times}

-- ---- printing

-- the type of a stored record, of which a tombstone has number 0
unfoldable pub stored_type_text : ℕ → List ℕ
stored_type_text rtype = if nat_eq rtype 0 then codes "TOMBSTONE" else type_text rtype

-- the numbers of a record, each behind its label
unfoldable pub numbers_text : Record → List ℕ
numbers_text item =
    count_text (codes " ttl=") item.ttl ++ count_text (codes " hour=") item.hour ++ count_text (codes " rank=") item.rank
    ++ count_text (codes " flags=") item.flags ++ count_text (codes " serial=") item.serial ++ count_text (codes " reserved=") item.reserved

-- the line of a record
unfoldable pub record_text : Record → List ℕ
record_text item = codes "record " ++ stored_type_text item.rtype ++ numbers_text item ++ codes " " ++ data_text item.rtype item.rdata

-- ---- reading

-- the type of a stored record that a word stands for
unfoldable pub stored_type_of : List ℕ → Option ℕ
stored_type_of word = if is_word word (codes "TOMBSTONE") then Some 0 else type_of word

-- the first three numbers of a record's line, and what stands behind them
unfoldable pub times_of : List ℕ → Option (Times × List ℕ)
times_of text = do
  ttl ← number_behind (codes "ttl=") (2 ^ 32 - 1) text
  hour ← number_behind (codes "hour=") (2 ^ 32 - 1) ttl.1
  rank ← number_behind (codes "rank=") (2 ^ 8 - 1) hour.1
  Some (record { ttl = ttl.0; hour = hour.0; rank = rank.0 }, rank.1)

-- and the other three
unfoldable pub marks_of : List ℕ → Option (Marks × List ℕ)
marks_of text = do
  flags ← number_behind (codes "flags=") (2 ^ 16 - 1) text
  serial ← number_behind (codes "serial=") (2 ^ 32 - 1) flags.1
  reserved ← number_behind (codes "reserved=") (2 ^ 32 - 1) serial.1
  Some (record { flags = flags.0; serial = serial.0; reserved = reserved.0 }, reserved.1)

-- the type of a record, and what stands behind it
unfoldable pub typed_of : List ℕ → Option (ℕ × List ℕ)
typed_of line = do
  word ← word_behind (codes "record ") line
  rtype ← stored_type_of word.0
  Some (rtype, word.1)

-- what a record's line says before its data, and what stands behind that
unfoldable pub head_of : List ℕ → Option (Head × List ℕ)
head_of line = do
  rtype ← typed_of line
  times ← times_of rtype.1
  marks ← marks_of times.1
  Some (record { rtype = rtype.0; times = times.0; marks = marks.0 }, marks.1)

abbrev pub record_with : Head → List ℕ → Record
record_with head rdata = record {
  rtype = head.rtype;
  rank = head.times.rank;
  flags = head.marks.flags;
  serial = head.marks.serial;
  ttl = head.times.ttl;
  reserved = head.marks.reserved;
  hour = head.times.hour;
  rdata = rdata;
}

-- the record that a line is
unfoldable pub record_of_text : List ℕ → Option Record
record_of_text line = do
  head ← head_of line
  rdata ← rdata_of_text head.0.rtype head.1
  Some (record_with head.0 rdata)

-- ---- the law

-- a record with valid data is read back from its line
abbrev pub RecordsAreReadBack : Type 0
RecordsAreReadBack = (item : Record) → IsInRange item → IsData item.rtype item.rdata → record_of_text (record_text item) ≡ Some item
