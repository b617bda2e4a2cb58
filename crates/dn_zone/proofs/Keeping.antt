-- What a new zone has and each of its events keeps.
use Rattle.std.proofs.Common.{ℕ}
use Rattle.dn_name.specs.Name.{Labels}
use Rattle.dn_stamp.specs.declared.stamp.ReplicaId.{ReplicaId}
use Rattle.dn_zone.specs.declared.event.Event.{Event}
use Rattle.dn_zone.specs.State.{ZoneState}
use Rattle.dn_zone.specs.Creation.{created, joined_zone}
use Rattle.dn_zone.specs.Zone.{zstep}

pub record Keeping (P : ZoneState → Type 0) : Type 0 where
  pub created : (id : ReplicaId) (host apex mailbox : Labels) (ticks : ℕ) → P (created id host apex mailbox ticks)
  pub joined : (id : ReplicaId) (host apex : Labels) → P (joined_zone id host apex)
  pub event : (zone : ZoneState) (event : Event) → P zone → P (zstep zone event).0
