-- What crates above may cite of these proofs.
pub use Rattle.dn_admin.proofs.ProperCommands.{proper_command}
