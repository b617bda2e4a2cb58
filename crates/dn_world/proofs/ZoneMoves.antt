-- What an event of a world does to its zones: one zone's own event at its place, or at most a new zone behind them.
use Rattle.std.proofs.Common.{◌≡◌, ℕ, Bool, true, false, cond, List, [], ◌∷◌, ◌++◌, Option, None, Some, refl}
use Rattle.std.specs.Prelude.{position, slice_get, slice_set, nat_le, length}
use Rattle.std.specs.List.{list_any}
use Rattle.dn_io.specs.Options.{◌>>=◌}
use Rattle.dn_name.specs.Name.{Labels}
use Rattle.dn_stamp.specs.declared.stamp.ReplicaId.{ReplicaId}
use Rattle.dn_stamp.specs.Stamp.{is_id}
use Rattle.dn_link.specs.declared.packet.Packet.{Packet}
use Rattle.dn_link.specs.declared.packet.Packet.TheVariants as packets
use Rattle.dn_zone.specs.declared.event.Event.{Event}
use Rattle.dn_zone.specs.declared.event.Event.TheVariants as zone_events
use Rattle.dn_zone.specs.State.{ZoneState}
use Rattle.dn_zone.specs.Creation.{created, joined_zone}
use Rattle.dn_zone.specs.Merge.{pull_of}
use Rattle.dn_zone.specs.Zone.{zstep}
use Rattle.dn_world.specs.declared.event.WorldAnswer.{WorldAnswer}
use Rattle.dn_world.specs.declared.event.WorldAnswer.TheVariants as answers
use Rattle.dn_world.specs.declared.event.WorldEvent.{WorldEvent}
use Rattle.dn_world.specs.declared.event.WorldEvent.TheVariants as events
use Rattle.dn_world.specs.declared.event.WorldNo.{WorldNo}
use Rattle.dn_world.specs.declared.world.Post.{Post}
use Rattle.dn_world.specs.declared.world.Replica.{Replica}
use Rattle.dn_world.specs.State.{WorldState}
use Rattle.dn_world.specs.Aging.{Arrival, arrival_at, arrival_of, arrival_with}
use Rattle.dn_world.specs.World.{act_at, act_in, answer_pull, deliver_post, deliver_to, has_id, is_zone, no_room, packet_limit, post_at, pull_between, replica_limit, sent, wstep, wstep_act, wstep_pull, wstep_replica, wstep_zone, zone_of, zone_unless}

-- a new zone: one that was created or joined
pub data IsNew (zone : ZoneState) : Type 0 where
  IsCreated : (id : ReplicaId) (host apex mailbox : Labels) (ticks : ℕ) → zone ≡ created id host apex mailbox ticks → IsNew zone
  IsJoined : (id : ReplicaId) (host apex : Labels) → zone ≡ joined_zone id host apex → IsNew zone

-- no zone changes, and at most a new one comes behind them
pub data Grows (before after : List ZoneState) : Type 0 where
  Stays : after ≡ before → Grows before after
  Adds : (zone : ZoneState) → IsNew zone → after ≡ before ++ zone ∷ [] → Grows before after

-- the zone at a place becomes what an event makes of it, and answers
pub record Acts (world : WorldState) (reached : Arrival) (after : WorldState × WorldAnswer) : Type 0 where
  pub found : slice_get world.zones reached.place ≡ Some reached.zone
  pub zones : after.0.zones ≡ slice_set world.zones reached.place (zstep reached.zone reached.event).0
  pub answer : after.1 ≡ answers.Zone (zstep reached.zone reached.event).1

abbrev pub Moves : WorldState → Option Arrival → WorldState × WorldAnswer → Type 0
Moves world None after = Grows world.zones after.0.zones
Moves world (Some reached) after = Acts world reached after

-- ---- new replicas and zones

either_stays : (b : Bool) (world : WorldState) (one other : WorldState × WorldAnswer) → Grows world.zones one.0.zones → Grows world.zones other.0.zones
    → Grows world.zones (cond {A = WorldState × WorldAnswer} b one other).0.zones
either_stays true world one other first second = first
either_stays false world one other first second = second

replica_made : (world : WorldState) (id : ReplicaId) (host : Labels) → Grows world.zones (wstep_replica world id host).0.zones
unfolding wstep_replica
replica_made world id host =
    either_stays (list_any (has_id id) world.replicas) world _ _ (Stays refl)
    (either_stays (nat_le replica_limit (length world.replicas)) world _ _ (Stays refl) (Stays refl))

unless_by : (why : Option WorldNo) (world : WorldState) (zone : ZoneState) → IsNew zone → Grows world.zones (zone_unless why world zone).0.zones
unless_by None world zone new = Adds zone new refl
unless_by (Some why) world zone new = Stays refl

zone_made : (world : WorldState) (replica : Option Replica) (apex : Labels) (make : Replica → ZoneState) → ((replica : Replica) → IsNew (make replica))
    → Grows world.zones (wstep_zone world replica apex make).0.zones
unfolding wstep_zone
zone_made world None apex make new = Stays refl
zone_made world (Some replica) apex make new = unless_by (no_room world replica.id apex) world (make replica) (new replica)

-- ---- events of zones

acted_in : (world : WorldState) (event : Event) (at : ℕ) (found : Option ZoneState) → slice_get world.zones at ≡ found
    → Moves world (found >>= λ zone. Some (record { place = at; zone = zone; event = event })) (act_in world event at found)
acted_in world event at None is = Stays refl
acted_in world event at (Some zone) is = record { found = is; zones = refl; answer = refl }

acted : (world : WorldState) (event : Event) (at : Option ℕ)
    → Moves world (at >>= λ place. slice_get world.zones place >>= λ zone. Some (record { place = place; zone = zone; event = event })) (act_at world event at)
acted world event None = Stays refl
acted world event (Some at) = acted_in world event at (slice_get world.zones at) refl

acted_by : (world : WorldState) (replica : Option Replica) (apex : Labels) (event : Event)
    → Moves world (replica >>= λ replica. arrival_at world replica.id apex event) (wstep_act world replica apex event)
unfolding wstep_act
acted_by world None apex event = Stays refl
acted_by world (Some replica) apex event = acted world event (position (is_zone replica.id apex) world.zones)

-- ---- packets

sent_stays : (world : WorldState) (to : ReplicaId) (packet : Packet) → Grows world.zones (sent world to packet).0.zones
sent_stays world to packet = either_stays (nat_le packet_limit (length world.packets)) world _ _ (Stays refl) (Stays refl)

pull_stays : (world : WorldState) (by of : Replica) (own theirs : Option ZoneState) → Grows world.zones (pull_between world by of own theirs).0.zones
pull_stays world by of None theirs = Stays refl
pull_stays world by of (Some own) None = Stays refl
pull_stays world by of (Some own) (Some theirs) = either_stays (is_id by.id of.id) world _ _ (Stays refl) (sent_stays world of.id (pull_of own of.id))

pulled_by : (world : WorldState) (by of : Option Replica) (apex : Labels) → Grows world.zones (wstep_pull world by of apex).0.zones
unfolding wstep_pull
pulled_by world None of apex = Stays refl
pulled_by world (Some by) None apex = Stays refl
pulled_by world (Some by) (Some of) apex = pull_stays world by of (zone_of world by.id apex) (zone_of world of.id apex)

answered : (world : WorldState) (from : ReplicaId) (after : ℕ) (found : Option ZoneState) → Grows world.zones (answer_pull world from after found).0.zones
answered world from after None = Stays refl
answered world from after (Some zone) = sent_stays world from _

delivered_to : (world : WorldState) (to : ReplicaId) (packet : Packet) → Moves world (arrival_with world to packet) (deliver_to world to packet)
unfolding deliver_to
delivered_to world to (packets.Pull apex from after) = answered world from after (zone_of world to apex)
delivered_to world to (packets.Changes changes) = acted world (zone_events.Merge changes) (position (is_zone to changes.zone) world.zones)

delivered : (world : WorldState) (post : Option Post) → Moves world (post >>= λ post. arrival_with world post.to post.packet) (deliver_post world post)
delivered world None = Stays refl
delivered world (Some post) = delivered_to world post.to post.packet

-- ---- each event

pub event_moves : (world : WorldState) (event : WorldEvent) → Moves world (arrival_of world event) (wstep world event)
unfolding wstep
event_moves world (events.Replica id host) = replica_made world id host
event_moves world (events.Create at apex mailbox moment) =
    zone_made world (slice_get world.replicas at) apex _ (λ replica. IsCreated replica.id replica.host apex mailbox moment refl)
event_moves world (events.Act at apex event) = acted_by world (slice_get world.replicas at) apex event
event_moves world (events.Join at apex) =
    zone_made world (slice_get world.replicas at) apex _ (λ replica. IsJoined replica.id replica.host apex refl)
event_moves world (events.Pull by of apex) = pulled_by world (slice_get world.replicas by) (slice_get world.replicas of) apex
event_moves world (events.Deliver number) = delivered world (post_at world.packets number)
