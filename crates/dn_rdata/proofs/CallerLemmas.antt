-- What crates above may cite of these proofs.
pub use Rattle.dn_rdata.proofs.LaidLemmas.{parts_are, parts_lie, parts_once}
pub use Rattle.dn_rdata.proofs.MadeData.{address_data, server_data, start_data}
pub use Rattle.dn_rdata.proofs.RowOrderLemmas.{row_exact, row_total, self_equal}
pub use Rattle.dn_rdata.proofs.StoredLemmas.{counteds_once, data_stored, name_once, names_most, names_once, same_split, stored_read, stored_sized, stored_valid, stored_written}
