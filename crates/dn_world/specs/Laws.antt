-- What holds of every zone of a world: equal replicas answer alike, and passes take stale records alone.
use Rattle.std.specs.Prelude.{◌≡◌, List, Contains, ℕ}
use Rattle.dn_message.specs.declared.query.Query.{Query}
use Rattle.dn_message.specs.Query.{IsQuery}
use Rattle.dn_answer.specs.Alike.{AreEqual, ReadAlike}
use Rattle.dn_answer.specs.declared.datagrams.Received.TheVariants.{Answer}
use Rattle.dn_answer.specs.Datagram.{zone_bytes}
use Rattle.dn_answer.specs.View.{ZoneSeen}
use Rattle.dn_zone.specs.declared.event.Event.{Event}
use Rattle.dn_zone.specs.State.{ZoneState}
use Rattle.dn_zone.specs.Aging.{none_given, Ages}
use Rattle.dn_world.specs.State.{WorldState}
use Rattle.dn_world.specs.Datagram.{received_at, reply_to, view_of}

-- Each zone of a world ages rightly, whatever events come.
abbrev pub AgesRightly : WorldState → Type 0
AgesRightly world = (zone : ZoneState) → Contains world.zones zone → (list : List Event) → Ages zone none_given list

-- In this world each two zones with the same units answer each query alike: whatever its bytes are, both reply in bytes that are
-- read as the same reply, save for the primary server and the serial of each SOA. So do any two replicas whose zones that a
-- query reaches have the same units.
pub record AnswersAlike (world : WorldState) : Type 0 where
  pub zones :
      (left right : ZoneState) → Contains world.zones left → Contains world.zones right → AreEqual (view_of left) (view_of right)
      → (request : List ℕ) (query : Query) → IsQuery request query → ReadAlike (zone_bytes request (view_of left) query) (zone_bytes request (view_of right) query)
  pub replicas :
      (at other : ℕ) (request : List ℕ) (query : Query) (left right : ZoneSeen) → received_at world at request ≡ Answer left query
      → received_at world other request ≡ Answer right query → AreEqual left right → ReadAlike (reply_to world at request) (reply_to world other request)
