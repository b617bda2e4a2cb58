-- What crates above may cite of these proofs.
pub use Rattle.dn_pages.proofs.CutLemmas.{Rises, cut_place}
