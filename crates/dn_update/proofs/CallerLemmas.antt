-- What crates above may cite of these proofs.
pub use Rattle.dn_update.proofs.AddedRows.{added_all, added_rows}
pub use Rattle.dn_update.proofs.RecordSetLemmas.{same_set_self}
pub use Rattle.dn_update.proofs.ValidAdded.{add_allowed}
pub use Rattle.dn_update.proofs.ValidWritten.{IsAllowed, stamped_valid, written_keeps}
