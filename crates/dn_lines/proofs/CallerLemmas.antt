-- What crates above may cite of these proofs.
pub use Rattle.dn_lines.proofs.SinkLemmas.{front-more, told_map}
