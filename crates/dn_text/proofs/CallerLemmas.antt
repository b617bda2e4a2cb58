-- What crates above may cite of these proofs.
pub use Rattle.dn_text.proofs.DataBack.{data_read_back}
pub use Rattle.dn_text.proofs.DigitsBack.{digits_back, hex_back}
pub use Rattle.dn_text.proofs.HexTextLemmas.{hex_lacks_colon, hex_lacks_space, hex_lacks_tab, hex_some}
pub use Rattle.dn_text.proofs.LongAddressesBack.{groups_lack_space, long_address_read_back}
pub use Rattle.dn_text.proofs.PropertiesBack.{properties_back}
pub use Rattle.dn_text.proofs.RecordsBack.{records_back}
pub use Rattle.dn_text.proofs.StringsBack.{strings_back}
pub use Rattle.dn_text.proofs.ValidDataLemmas.{read_is_data}
