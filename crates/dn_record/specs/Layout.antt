-- The bytes of a stored record (MS-DNSP 2.3.2.2).
use Rattle.std.specs.Prelude.{◌≡◌, ℕ, List, ◌∷◌, ◌++◌, length}
use Rattle.dn_rdata.specs.Stored.{IsStored}
use Rattle.dn_rdata.specs.declared.record.Record.{Record}
use Rattle.dn_record.specs.Fields.{four_big, four_little, two_little}

-- The 24 bytes of the header: how many bytes the data have, type, version 5, rank, flags, serial, time to live, a reserved
-- field, and the time stamp. The time to live alone has its high byte first.
abbrev pub header_bytes : ℕ → ℕ → ℕ → ℕ → ℕ → ℕ → ℕ → ℕ → List ℕ
header_bytes len rtype rank flags serial ttl reserved hour =
    two_little len ++ (two_little rtype ++ (5 ∷ (rank ∷ (two_little flags ++ (four_little serial ++ (four_big ttl ++ (four_little reserved ++ four_little hour)))))))

abbrev pub header_of : Record → ℕ → List ℕ
header_of item len = header_bytes len item.rtype item.rank item.flags item.serial item.ttl item.reserved item.hour

-- the bytes are the record: its header, and the stored form of its data, behind which stands nothing
pub record IsRecord (bytes : List ℕ) (item : Record) : Type 0 where
  pub stored : List ℕ
  pub bytes_are : bytes ≡ header_of item (length stored) ++ stored
  pub data_is : IsStored item.rtype stored item.rdata

-- bytes are one record at most
abbrev pub RecordIsReadOnce : Type 0
RecordIsReadOnce = (bytes : List ℕ) (item other : Record) → IsRecord bytes item → IsRecord bytes other → item ≡ other

-- a record has one spelling
abbrev pub RecordIsWrittenOnce : Type 0
RecordIsWrittenOnce = (bytes other : List ℕ) (item : Record) → IsRecord bytes item → IsRecord other item → bytes ≡ other
