-- What a datagram to a replica comes to, and what the replica replies.
use Rattle.std.specs.Prelude.{ℕ, List, [], filter, map, slice_get}
use Rattle.std.specs.Option.{option_map_or}
use Rattle.dn_stamp.specs.declared.stamp.ReplicaId.{ReplicaId}
use Rattle.dn_answer.specs.declared.datagrams.Received.{Received}
use Rattle.dn_answer.specs.Datagram.{ReadAs, received, reply_bytes}
use Rattle.dn_answer.specs.View.{ZoneSeen}
use Rattle.dn_zone.specs.State.{ZoneState}
use Rattle.dn_world.specs.State.{WorldState}
use Rattle.dn_world.specs.World.{is_of}

-- a zone as its replica shows it
abbrev pub view_of : ZoneState → ZoneSeen
view_of zone = record { apex = zone.apex; host = zone.host; table = zone.table }

-- the zones of a replica
unfoldable pub zones_of : WorldState → ReplicaId → List ZoneSeen
zones_of world id = map view_of (filter (is_of id) world.zones)

-- the zones of the replica of a number, none where there is no such replica
unfoldable pub zones_at : WorldState → ℕ → List ZoneSeen
zones_at world at = option_map_or (λ replica. zones_of world replica.id) (slice_get world.replicas at) []

-- what a datagram to the replica of a number comes to
abbrev pub received_at : WorldState → ℕ → List ℕ → Received
received_at world at request = received (zones_at world at) request

-- what this replica replies to the bytes of a datagram; no byte is no reply
abbrev pub reply_to : WorldState → ℕ → List ℕ → List ℕ
reply_to world at request = reply_bytes request (received_at world at request)

-- The bytes are read by the grammar of replies as what the replica has to say to the datagram: to a query that reaches a zone
-- the zone's reply, with the query's number, RD and question.
abbrev pub IsReadRightly : WorldState → ℕ → List ℕ → List ℕ → Type 0
IsReadRightly world at request reply = ReadAs request (received_at world at request) reply
