-- What passes of the scavenger do in a whole run: each event that reaches a zone, with what the zone's running pass has given.
use Rattle.std.specs.Prelude.{◌≡◌, ℕ, if◌then◌else◌, nat_eq, List, [], ◌∷◌, ◌++◌, Option, None, Some, position, slice_get, slice_set, ⊤}
use Rattle.dn_io.specs.Options.{◌>>=◌}
use Rattle.dn_name.specs.Name.{Labels}
use Rattle.dn_stamp.specs.declared.stamp.ReplicaId.{ReplicaId}
use Rattle.dn_link.specs.declared.packet.Packet.{Packet}
use Rattle.dn_link.specs.declared.packet.Packet.TheVariants as packets
use Rattle.dn_zone.specs.declared.event.Event.{Event}
use Rattle.dn_zone.specs.declared.event.Event.TheVariants.{Merge}
use Rattle.dn_zone.specs.State.{ZoneState}
use Rattle.dn_zone.specs.Aging.{EventAges, Given, given_behind, none_given}
use Rattle.dn_zone.specs.Zone.{zstep}
use Rattle.dn_world.specs.declared.event.WorldAnswer.TheVariants as answers
use Rattle.dn_world.specs.declared.event.WorldEvent.{WorldEvent}
use Rattle.dn_world.specs.declared.event.WorldEvent.TheVariants as events
use Rattle.dn_world.specs.State.{WorldState}
use Rattle.dn_world.specs.Runs.{Entry}
use Rattle.dn_world.specs.World.{is_zone, post_at}

-- ---- which zone an event reaches

-- the zone that an event reaches, its place among the zones of the world, which no event changes, and what the event is to it
pub record Arrival : Type 0 where
  pub place : ℕ
  pub zone : ZoneState
  pub event : Event

-- at the zone of a replica with an apex
abbrev pub arrival_at : WorldState → ReplicaId → Labels → Event → Option Arrival
arrival_at world id apex event = do
  place ← position (is_zone id apex) world.zones
  zone ← slice_get world.zones place
  Some (record { place = place; zone = zone; event = event })

-- changes that come to their receiver are merged there
abbrev pub arrival_with : WorldState → ReplicaId → Packet → Option Arrival
arrival_with world to (packets.Pull apex from after) = None
arrival_with world to (packets.Changes changes) = arrival_at world to changes.zone (Merge changes)

-- the zone that an event reaches, where it reaches one
abbrev pub arrival_of : WorldState → WorldEvent → Option Arrival
arrival_of world (events.Replica id host) = None
arrival_of world (events.Create at apex mailbox moment) = None
arrival_of world (events.Join at apex) = None
arrival_of world (events.Act at apex event) = do
  replica ← slice_get world.replicas at
  arrival_at world replica.id apex event
arrival_of world (events.Pull by of apex) = None
arrival_of world (events.Deliver number) = do
  post ← post_at world.packets number
  arrival_with world post.to post.packet

-- ---- passes in a run

-- the numbers of the changes that the running pass of each zone made, by the zone's place
abbrev pub Givens : Type 0
Givens = ℕ → Given

abbrev pub nothing_given : Givens
nothing_given place = none_given

-- the same behind an event
abbrev pub givens_behind : Givens → Option Arrival → Givens
givens_behind givens None place = givens place
givens_behind givens (Some reached) place =
    if nat_eq place reached.place then given_behind (givens place) reached.zone reached.event else givens place

-- An event that reaches a zone: that zone becomes what the event makes of it, and each other is as before; the answer is the
-- zone's; and what a pass does there is right by what it has given so far.
pub record ArrivalAges (givens : Givens) (entry : Entry) (reached : Arrival) : Type 0 where
  pub zones : entry.after.zones ≡ slice_set entry.before.zones reached.place (zstep reached.zone reached.event).0
  pub answer : entry.answer ≡ answers.Zone (zstep reached.zone reached.event).1
  pub ages : EventAges reached.zone (givens reached.place) reached.event

-- an event that reaches none leaves each zone as it is; new ones may come behind them
abbrev pub EntryAges : Givens → Entry → Option Arrival → Type 0
EntryAges givens entry None = (more : List ZoneState) × (entry.after.zones ≡ entry.before.zones ++ more)
EntryAges givens entry (Some reached) = ArrivalAges givens entry reached

-- Each entry of a trace ages the zone that it reaches rightly, by what the pass that runs there gave in the entries before.
abbrev pub TraceAges : Givens → List Entry → Type 0
TraceAges givens [] = ⊤
TraceAges givens (entry ∷ rest) =
    let reached = arrival_of entry.before entry.event in
    EntryAges givens entry reached × TraceAges (givens_behind givens reached) rest
