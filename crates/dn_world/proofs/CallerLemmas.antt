-- What crates above may cite of these proofs.
pub use Rattle.dn_world.proofs.EveryZone.{event_all, run_sound}
pub use Rattle.dn_world.proofs.RunLemmas.{run_then, run_world}
pub use Rattle.dn_world.proofs.SlotLemmas.{found_holds, place_found, set_found}
pub use Rattle.dn_world.proofs.ValidWorld.{run_keeps, run_valid}
pub use Rattle.dn_world.proofs.ViewLemmas.{datagram_repliable}
