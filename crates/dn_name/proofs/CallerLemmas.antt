-- What crates above may cite of these proofs.
pub use Rattle.dn_name.proofs.DecisionLemmas.{by_part, exact_found, no_value, none_is, one_value, only_none, only_some, some_is}
pub use Rattle.dn_name.proofs.LowerCaseLemmas.{lower-wire as lower_wire, name-lowered as name_lowered}
pub use Rattle.dn_name.proofs.OrderLemmas.{same_means, under_means}
pub use Rattle.dn_name.proofs.ReadAgainLemmas.{plain_again}
pub use Rattle.dn_name.proofs.ReadBack.{read_back}
pub use Rattle.dn_name.proofs.SpelledDecision.{spelled_or_not}
pub use Rattle.dn_name.proofs.SpelledLemmas.{plain_spelled}
