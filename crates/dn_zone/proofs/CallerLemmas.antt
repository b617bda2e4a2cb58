-- What crates above may cite of these proofs.
pub use Rattle.dn_zone.proofs.AgingEvents.{BothZone}
pub use Rattle.dn_zone.proofs.AgingPasses.{SoundZone, event_ages, event_both, sound_ages, zones_sound}
pub use Rattle.dn_zone.proofs.Keeping.{Keeping}
pub use Rattle.dn_zone.proofs.Identity.{IsSameZone, event_same}
pub use Rattle.dn_zone.proofs.OwnWrites.{none_sound}
pub use Rattle.dn_zone.proofs.ValidCreation.{created_valid, joined_valid}
pub use Rattle.dn_zone.proofs.ValidEvents.{changes_valid, event_valid, pull_valid}
pub use Rattle.dn_zone.proofs.WritesLemmas.{takes_its_writes}
pub use Rattle.dn_zone.proofs.ZoneData.{node_data, zone_data, zone_named}
