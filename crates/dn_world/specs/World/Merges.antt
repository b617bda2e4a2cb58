-- What a merge does to the list of a world's zones.
use Rattle.std.specs.Prelude.{◌≡◌, List, position}
use Rattle.dn_stamp.specs.declared.stamp.ReplicaId.{ReplicaId}
use Rattle.dn_link.specs.declared.packet.Changes.{Changes}
use Rattle.dn_zone.specs.declared.event.Event.TheVariants.{Merge}
use Rattle.dn_zone.specs.State.{ZoneState}
use Rattle.dn_world.specs.declared.event.WorldAnswer.{WorldAnswer}
use Rattle.dn_world.specs.State.{WorldState}
use Rattle.dn_world.specs.World.{act_at, is_zone}

-- Of each world with these zones, the merge at a replica makes the world with the new ones.
abbrev pub MergesAt : List ZoneState → List ZoneState → ReplicaId → Changes → WorldAnswer → Type 0
MergesAt before after id changes answer =
    (world : WorldState) → world.zones ≡ before
    → act_at world (Merge changes) (position (is_zone id changes.zone) before) ≡ (record world { zones = after }, answer)
