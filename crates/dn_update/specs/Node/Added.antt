-- What a body tells of a record that is added to a node: the records behind it, or none where they stay the same set.
use Rattle.std.specs.Prelude.{◌≡◌, true, false, List, Option, None, Some}
use Rattle.dn_rdata.specs.declared.record.Record.{Record}
use Rattle.dn_update.specs.Node.{is_same_set, with_added}

abbrev pub AddsRow : Option (List Record) → Record → List Record → Type 0
AddsRow None row rows = is_same_set rows (with_added row rows) ≡ true
AddsRow (Some after) row rows = (after ≡ with_added row rows) × (is_same_set rows after ≡ false)
