-- Replicas, their zones, and what an event makes of them.
pub mod Merges
pub mod Puts
use Rattle.std.specs.Prelude.{ℕ, zero, suc, ◌+◌, Bool, ◌&&◌, nat_lt, nat_le, if◌then◌else◌, List, [], ◌∷◌, ◌++◌, length, count_by, filter, find, position, slice_get, slice_set, Option, None, Some}
use Rattle.std.specs.List.{list_any}
use Rattle.dn_name.specs.Name.{Labels, is_same, is_under}
use Rattle.dn_stamp.specs.declared.stamp.ReplicaId.{ReplicaId}
use Rattle.dn_stamp.specs.Stamp.{is_id}
use Rattle.dn_link.specs.declared.packet.Packet.{Packet}
use Rattle.dn_link.specs.declared.packet.Packet.TheVariants as packets
use Rattle.dn_zone.specs.declared.event.Answer.{Answer}
use Rattle.dn_zone.specs.declared.event.Event.{Event}
use Rattle.dn_zone.specs.declared.event.Event.TheVariants as zone_events
use Rattle.dn_zone.specs.State.{ZoneState}
use Rattle.dn_zone.specs.Creation.{created, joined_zone}
use Rattle.dn_zone.specs.Merge.{changes_of, pull_of}
use Rattle.dn_zone.specs.Zone.{zstep}
use Rattle.dn_world.specs.declared.event.WorldAnswer.{WorldAnswer}
use Rattle.dn_world.specs.declared.event.WorldAnswer.TheVariants.{Made, No, Sent}
use Rattle.dn_world.specs.declared.event.WorldAnswer.TheVariants as answers
use Rattle.dn_world.specs.declared.event.WorldEvent.{WorldEvent}
use Rattle.dn_world.specs.declared.event.WorldEvent.TheVariants as events
use Rattle.dn_world.specs.declared.event.WorldNo.{WorldNo}
use Rattle.dn_world.specs.declared.event.WorldNo.TheVariants.{IdTaken, NoReplica, NoZone, ZoneThere, NoPacket, SelfPull, Full}
use Rattle.dn_world.specs.declared.world.Post.{Post}
use Rattle.dn_world.specs.declared.world.Replica.{Replica}
use Rattle.dn_world.specs.State.{WorldState}

abbrev pub has_id : ReplicaId → Replica → Bool
has_id id replica = is_id replica.id id

abbrev pub is_of : ReplicaId → ZoneState → Bool
is_of id zone = is_id zone.id id

-- the zone of this replica with this apex
abbrev pub is_zone : ReplicaId → Labels → ZoneState → Bool
is_zone id apex zone = is_of id zone && is_same zone.apex apex

-- the replica has a zone with this apex
abbrev pub has_zone : List ZoneState → ReplicaId → Labels → Bool
has_zone zones id apex = list_any (is_zone id apex) zones

-- the world without replicas
unfoldable pub empty_world : WorldState
empty_world = record { replicas = []; zones = []; packets = [] }

abbrev pub with_replica : WorldState → Replica → WorldState
with_replica world replica = record world { replicas = world.replicas ++ replica ∷ [] }

abbrev pub with_zone : WorldState → ZoneState → WorldState
with_zone world zone = record world { zones = world.zones ++ zone ∷ [] }

abbrev pub set_zone : WorldState → ℕ → ZoneState → WorldState
set_zone world at zone = record world { zones = slice_set world.zones at zone }

-- the most replicas of a world, and the most zones of a replica
abbrev pub replica_limit : ℕ
replica_limit = 64

abbrev pub zone_limit : ℕ
zone_limit = 16

-- a new replica
unfoldable pub wstep_replica : WorldState → ReplicaId → Labels → WorldState × WorldAnswer
wstep_replica world id host =
    if list_any (has_id id) world.replicas then (world, No IdTaken)
    else (if nat_le replica_limit (length world.replicas) then (world, No Full)
    else (with_replica world (record { id = id; host = host }), Made))

-- why a replica can't have a new zone with this apex
abbrev pub no_room : WorldState → ReplicaId → Labels → Option WorldNo
no_room world id apex =
    if has_zone world.zones id apex then Some ZoneThere
    else (if nat_le zone_limit (count_by (is_of id) world.zones) then Some Full else None)

abbrev pub zone_unless : Option WorldNo → WorldState → ZoneState → WorldState × WorldAnswer
zone_unless (Some why) world zone = (world, No why)
zone_unless None world zone = (with_zone world zone, Made)

-- a new zone of a replica, made as `make` says
unfoldable pub wstep_zone : WorldState → Option Replica → Labels → (Replica → ZoneState) → WorldState × WorldAnswer
wstep_zone world None apex make = (world, No NoReplica)
wstep_zone world (Some replica) apex make = zone_unless (no_room world replica.id apex) world (make replica)

abbrev pub acted_at : WorldState → ℕ → ZoneState × Answer → WorldState × WorldAnswer
acted_at world at after = (set_zone world at after.0, answers.Zone after.1)

abbrev pub act_in : WorldState → Event → ℕ → Option ZoneState → WorldState × WorldAnswer
act_in world event at None = (world, No NoZone)
act_in world event at (Some zone) = acted_at world at (zstep zone event)

abbrev pub act_at : WorldState → Event → Option ℕ → WorldState × WorldAnswer
act_at world event None = (world, No NoZone)
act_at world event (Some at) = act_in world event at (slice_get world.zones at)

unfoldable pub wstep_act : WorldState → Option Replica → Labels → Event → WorldState × WorldAnswer
wstep_act world None apex event = (world, No NoReplica)
wstep_act world (Some replica) apex event = act_at world event (position (is_zone replica.id apex) world.zones)

-- ---- packets

-- how many packets a run sends at most
abbrev pub packet_limit : ℕ
packet_limit = 4294967295

-- a packet is sent; the first has number 1
abbrev pub sent : WorldState → ReplicaId → Packet → WorldState × WorldAnswer
sent world to packet =
    if nat_le packet_limit (length world.packets) then (world, No Full)
    else (record world { packets = world.packets ++ record { to = to; packet = packet } ∷ [] }, Sent (length world.packets + 1))

-- the zone of a replica with this apex
abbrev pub zone_of : WorldState → ReplicaId → Labels → Option ZoneState
zone_of world id apex = find (is_zone id apex) world.zones

abbrev pub zone_of_replica : WorldState → Labels → Option Replica → Option ZoneState
zone_of_replica world apex None = None
zone_of_replica world apex (Some replica) = zone_of world replica.id apex

-- the zone with this apex of the replica of a number
unfoldable pub zone_at : WorldState → ℕ → Labels → Option ZoneState
zone_at world at apex = zone_of_replica world apex (slice_get world.replicas at)

abbrev pub pull_between : WorldState → Replica → Replica → Option ZoneState → Option ZoneState → WorldState × WorldAnswer
pull_between world by of None theirs = (world, No NoZone)
pull_between world by of (Some own) None = (world, No NoZone)
pull_between world by of (Some own) (Some theirs) =
    if is_id by.id of.id then (world, No SelfPull) else sent world of.id (pull_of own of.id)

-- a replica asks another for a zone's changes
unfoldable pub wstep_pull : WorldState → Option Replica → Option Replica → Labels → WorldState × WorldAnswer
wstep_pull world None of apex = (world, No NoReplica)
wstep_pull world (Some by) None apex = (world, No NoReplica)
wstep_pull world (Some by) (Some of) apex = pull_between world by of (zone_of world by.id apex) (zone_of world of.id apex)

abbrev pub answer_pull : WorldState → ReplicaId → ℕ → Option ZoneState → WorldState × WorldAnswer
answer_pull world from after None = (world, No NoZone)
answer_pull world from after (Some zone) = sent world from (packets.Changes (changes_of zone.table zone.apex zone.id after))

-- a packet comes to its receiver: one that asks is answered by another packet, changes are merged
unfoldable pub deliver_to : WorldState → ReplicaId → Packet → WorldState × WorldAnswer
deliver_to world to (packets.Pull apex from after) = answer_pull world from after (zone_of world to apex)
deliver_to world to (packets.Changes changes) =
    act_at world (zone_events.Merge changes) (position (is_zone to changes.zone) world.zones)

abbrev pub deliver_post : WorldState → Option Post → WorldState × WorldAnswer
deliver_post world None = (world, No NoPacket)
deliver_post world (Some post) = deliver_to world post.to post.packet

-- the packet of a number, from 1
abbrev pub post_at : List Post → ℕ → Option Post
post_at posts zero = None
post_at posts (suc before) = slice_get posts before

-- The step of the world: the world and the answer after an event. Replicas are numbered from 0. A refused event changes
-- nothing.
unfoldable pub wstep : WorldState → WorldEvent → WorldState × WorldAnswer
wstep world (events.Replica id host) = wstep_replica world id host
wstep world (events.Create at apex mailbox moment) =
    wstep_zone world (slice_get world.replicas at) apex (λ replica. created replica.id replica.host apex mailbox moment)
wstep world (events.Act at apex event) = wstep_act world (slice_get world.replicas at) apex event
wstep world (events.Join at apex) =
    wstep_zone world (slice_get world.replicas at) apex (λ replica. joined_zone replica.id replica.host apex)
wstep world (events.Pull by of apex) = wstep_pull world (slice_get world.replicas by) (slice_get world.replicas of) apex
wstep world (events.Deliver number) = deliver_post world (post_at world.packets number)
