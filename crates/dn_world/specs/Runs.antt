-- Runs: their trace, the worlds behind lists of events, which events are proper, and what a valid world is.
use Rattle.std.specs.Prelude.{◌≡◌, ◌≤◌, Bool, true, false, ◌&&◌, List, [], ◌∷◌, length, count_by, find, Some, ⊤}
use Rattle.std.specs.List.{AllByRecursion, list_any}
use Rattle.dn_name.specs.Name.{IsName, Labels, is_same}
use Rattle.dn_stamp.specs.declared.stamp.ReplicaId.{ReplicaId}
use Rattle.dn_stamp.specs.Stamp.{is_id}
use Rattle.dn_link.specs.declared.packet.Packet.{Packet}
use Rattle.dn_link.specs.declared.packet.Packet.TheVariants as packets
use Rattle.dn_link.specs.Sent.{IsValidPull, IsValidRun}
use Rattle.dn_zone.specs.State.{ZoneState}
use Rattle.dn_zone.specs.Valid.{IsProperEvent, IsValidZone}
use Rattle.dn_world.specs.declared.event.WorldAnswer.{WorldAnswer}
use Rattle.dn_world.specs.declared.event.WorldAnswer.TheVariants.{Made}
use Rattle.dn_world.specs.declared.event.WorldEvent.{WorldEvent}
use Rattle.dn_world.specs.declared.event.WorldEvent.TheVariants as events
use Rattle.dn_world.specs.declared.world.Post.{Post}
use Rattle.dn_world.specs.declared.world.Replica.{Replica}
use Rattle.dn_world.specs.State.{WorldState}
use Rattle.dn_world.specs.World.{empty_world, has_id, has_zone, is_of, packet_limit, replica_limit, wstep, zone_limit}

-- ---- the trace of a run, from which its last world, its transcript and what its passes did are read

-- one event of a run: the world before it, the event, the world behind it and the answer
pub record Entry : Type 0 where
  pub before : WorldState
  pub event : WorldEvent
  pub after : WorldState
  pub answer : WorldAnswer

-- an event in a world
abbrev pub entry_of : WorldState → WorldEvent → Entry
entry_of world event =
    record { before = world; event = event; after = (wstep world event).0; answer = (wstep world event).1 }

-- events in turn, from a world on: each in the world behind the one before it
abbrev pub trace_from : WorldState → List WorldEvent → List Entry
trace_from world [] = []
trace_from world (event ∷ rest) = entry_of world event ∷ trace_from (wstep world event).0 rest

-- the trace of a run, from the world without replicas
abbrev pub trace : List WorldEvent → List Entry
trace events = trace_from empty_world events

-- the world and the answer of the last entry, or those from before where there is none
abbrev pub last_of : WorldState × WorldAnswer → List Entry → WorldState × WorldAnswer
last_of now [] = now
last_of now (entry ∷ rest) = last_of (entry.after, entry.answer) rest

-- The world after a list of events and the last answer, from a world and the answer before.
abbrev pub run_from : WorldState × WorldAnswer → List WorldEvent → WorldState × WorldAnswer
run_from now events = last_of now (trace_from now.0 events)

-- the world after a list of events, from the world without replicas
unfoldable pub wrun : List WorldEvent → WorldState
wrun events = (last_of (empty_world, Made) (trace events)).0

-- ---- proper events, and valid worlds

-- A proper event: its names are names, and what is done to a zone is a command or a part of a pass within their limits. Changes
-- are merged by the delivery of a packet that was sent, and by nothing else.
abbrev pub IsProper : WorldEvent → Type 0
IsProper (events.Replica id host) = IsName host
IsProper (events.Create at apex mailbox moment) = IsName apex × IsName mailbox
IsProper (events.Join at apex) = IsName apex
IsProper (events.Act at apex event) = IsName apex × IsProperEvent event
IsProper (events.Pull by of apex) = IsName apex
IsProper (events.Deliver packet) = Unit {0}

abbrev pub AreProper : List WorldEvent → Type 0
AreProper list = AllByRecursion IsProper list

abbrev pub IsValidPacket : Packet → Type 0
IsValidPacket (packets.Pull zone from after) = IsValidPull zone after
IsValidPacket (packets.Changes changes) = IsValidRun changes

-- the zone that a packet is about, and the replica that sent it
abbrev pub zone_in : Packet → Labels
zone_in (packets.Pull zone from after) = zone
zone_in (packets.Changes changes) = changes.zone

abbrev pub sender_of : Packet → ReplicaId
sender_of (packets.Pull zone from after) = from
sender_of (packets.Changes changes) = changes.supplier

-- A valid packet on its way: its sender and its receiver are two replicas, and both have its zone. So no replica merges what
-- it sent itself.
pub record IsValidPost (zones : List ZoneState) (post : Post) : Type 0 where
  pub packet : IsValidPacket post.packet
  pub sender : has_zone zones (sender_of post.packet) (zone_in post.packet) ≡ true
  pub receiver : has_zone zones post.to (zone_in post.packet) ≡ true
  pub apart : is_id (sender_of post.packet) post.to ≡ false

-- no item of a list is the same as a later one
abbrev pub NoTwo : {A : Type 0} → (A → A → Bool) → List A → Type 0
NoTwo same [] = ⊤
NoTwo same (one ∷ rest) = (list_any (same one) rest ≡ false) × NoTwo same rest

abbrev pub same_id : Replica → Replica → Bool
same_id one other = is_id one.id other.id

-- zones of one replica with the same apex
abbrev pub same_zone : ZoneState → ZoneState → Bool
same_zone one other = is_id one.id other.id && is_same one.apex other.apex

-- the replica of the zone's id is there, and its name is the zone's host
abbrev pub HasReplica : List Replica → ZoneState → Type 0
HasReplica replicas zone = find (has_id zone.id) replicas ≡ Some (record { id = zone.id; host = zone.host })

pub record IsWithinLimits (world : WorldState) : Type 0 where
  pub replicas : length world.replicas ≤ replica_limit
  pub zones : (id : ReplicaId) → count_by (is_of id) world.zones ≤ zone_limit
  pub packets : length world.packets ≤ packet_limit

-- A valid world: the replicas have different ids, and their hosts are names; each zone is valid and belongs to a replica, which
-- has no other with the same apex; each packet is valid and goes from one replica to another that has its zone too; and there
-- are no more of them than the limits say.
pub record IsValidWorld (world : WorldState) : Type 0 where
  pub hosts : AllByRecursion (λ replica. IsName replica.host) world.replicas
  pub ids : NoTwo same_id world.replicas
  pub zones : AllByRecursion IsValidZone world.zones
  pub owners : AllByRecursion (HasReplica world.replicas) world.zones
  pub apexes : NoTwo same_zone world.zones
  pub packets : AllByRecursion (IsValidPost world.zones) world.packets
  pub limits : IsWithinLimits world
