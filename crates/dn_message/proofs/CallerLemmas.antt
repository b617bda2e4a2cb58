-- What crates above may cite of these proofs.
pub use Rattle.dn_message.proofs.QueryOfLemmas.{is_no_query, is_query, no_query, query_is}
pub use Rattle.dn_message.proofs.ReadBackLemmas.{FlagsFit, code_fits, read_back, short_read}
