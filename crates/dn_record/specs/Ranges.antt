-- The record that bytes are is within the widths of its fields, and fits into a stored record.
use Rattle.std.specs.Prelude.{ℕ, ◌+◌, ◌^◌, ◌<◌, List}
use Rattle.dn_rdata.specs.Ranges.{AreBytes, IsInRange}
use Rattle.dn_rdata.specs.Record.{stored_size}
use Rattle.dn_rdata.specs.declared.record.Record.{Record}
use Rattle.dn_record.specs.Layout.{IsRecord}

abbrev pub RecordsAreInRange : Type 0
RecordsAreInRange = (bytes : List ℕ) (item : Record) → AreBytes bytes → IsRecord bytes item → IsInRange item × (stored_size item < 24 + 2 ^ 16)
