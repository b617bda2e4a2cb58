-- Replicas of a valid world reply alike where the zones that a query reaches have the same units.
use Rattle.std.proofs.Common.{◌≡◌, ℕ, List, refl, subst, sym}
use Rattle.dn_message.specs.declared.query.Query.{Query}
use Rattle.dn_answer.specs.declared.datagrams.Received.{Received}
use Rattle.dn_answer.specs.declared.datagrams.Received.TheVariants.{Answer}
use Rattle.dn_answer.specs.Alike.{AreEqual, EqualReplyAlike, ReadAlike}
use Rattle.dn_answer.specs.Datagram.{IsRepliable, reply_bytes, zone_bytes}
use Rattle.dn_answer.specs.View.{ZoneSeen}
use Rattle.dn_zone.specs.Valid.{IsValidZone}
use Rattle.dn_world.specs.State.{WorldState}
use Rattle.dn_world.specs.Datagram.{received_at, reply_to, view_of}
use Rattle.dn_world.specs.Laws.{AnswersAlike}
use Rattle.dn_world.specs.Runs.{IsValidWorld}
use Rattle.dn_world.proofs.EveryZone.{holds_among}
use Rattle.dn_world.proofs.ViewLemmas.{datagram_repliable, zone_servable}

module _ (alike : EqualReplyAlike) (request : List ℕ) (query : Query) (left right : ZoneSeen) (equal : AreEqual left right) where
  bytes_alike : (one other : Received) → one ≡ Answer left query → other ≡ Answer right query → IsRepliable request one → IsRepliable request other
      → ReadAlike (reply_bytes request one) (reply_bytes request other)
  bytes_alike one other is also can can_other =
      let first : IsRepliable request (Answer left query) = subst (IsRepliable request) is can in
      let second : IsRepliable request (Answer right query) = subst (IsRepliable request) also can_other in
      let same : ReadAlike (zone_bytes request left query) (zone_bytes request right query) = alike left right first.1 second.1 equal request query first.2 in
      subst (λ it. ReadAlike (reply_bytes request it) (reply_bytes request other)) (sym is)
      (subst (λ it. ReadAlike (zone_bytes request left query) (reply_bytes request it)) (sym also) same)

pub world_alike : EqualReplyAlike → (world : WorldState) → IsValidWorld world → AnswersAlike world
world_alike alike world valid =
    record {
      zones = λ left right one other equal request query is.
          alike (view_of left) (view_of right)
          (zone_servable left (holds_among IsValidZone world.zones left one.0 valid.zones one.1 one.2))
          (zone_servable right (holds_among IsValidZone world.zones right other.0 valid.zones other.1 other.2)) equal request query is.name_spelled.0;
      replicas = λ at other request query left right is also equal.
          bytes_alike alike request query left right equal (received_at world at request) (received_at world other request) is also
          (datagram_repliable world valid at request) (datagram_repliable world valid other request);
    }
