-- What crates above may cite of these proofs.
pub use Rattle.dn_answer.proofs.DatagramLemmas.{repliable}
pub use Rattle.dn_answer.proofs.RepliesRead.{read_as}
pub use Rattle.dn_answer.proofs.ToldLemmas.{Says, told_to}
