-- The zones of a replica as they are seen, in a valid world.
use Rattle.std.proofs.Common.{◌≡◌, ℕ, ◌+◌, ◌-◌, ◌<◌, ◌≤◌, Bool, true, false, cond, if◌then◌else◌, List, [], ◌∷◌, length, drop, get_or, Option, None, Some, refl, sym, ap, ◌∙◌, arith}
use Rattle.std.proofs.lemmas.List.{at_drop_all, at_drop_more}
use Rattle.std.specs.List.{AllByRecursion}
use Rattle.std.specs.Option.{option_map_or}
use Rattle.std.specs.Prelude.{filter, map, slice_get, ◌&&◌}
use Rattle.dn_name.specs.Name.{Labels}
use Rattle.dn_stamp.specs.declared.stamp.ReplicaId.{ReplicaId}
use Rattle.dn_store.proofs.CallerLemmas.{all_filter}
use Rattle.dn_answer.specs.Datagram.{IsRepliable, is_over, nearer, nearest}
use Rattle.dn_answer.specs.Sendable.{AnswersAreSendable}
use Rattle.dn_answer.specs.View.{IsServable, ZoneSeen}
use Rattle.dn_answer.proofs.CallerLemmas.{read_as, repliable}
use Rattle.dn_zone.specs.State.{ZoneState}
use Rattle.dn_zone.specs.Valid.{IsValidZone}
use Rattle.dn_zone.proofs.CallerLemmas.{zone_data, zone_named}
use Rattle.dn_world.specs.declared.world.Replica.{Replica}
use Rattle.dn_world.specs.State.{WorldState}
use Rattle.dn_world.specs.Datagram.{IsReadRightly, received_at, reply_to, view_of, zones_at, zones_of}
use Rattle.dn_world.specs.Runs.{IsValidWorld}
use Rattle.dn_world.specs.World.{is_of}

-- ---- the zone over a name

abbrev pub over : ReplicaId → Labels → List ZoneState → Option ZoneSeen
over id name zones = nearest (filter (is_over name) (map view_of (filter (is_of id) zones)))

-- one zone more at the front
pub one_more : (id : ReplicaId) (name : Labels) (zone : ZoneState) (rest : List ZoneState)
    → over id name (zone ∷ rest) ≡ (if is_of id zone && is_over name (view_of zone) then nearer (view_of zone) (over id name rest) else over id name rest)
unfolding nearest
one_more id name zone rest = by_tests (is_of id zone) (is_over name (view_of zone)) refl
  where
    by_tests : (its here : Bool) → is_over name (view_of zone) ≡ here
        → nearest (filter (is_over name) (map view_of (cond its (zone ∷ filter (is_of id) rest) (filter (is_of id) rest))))
        ≡ cond (its && here) (nearer (view_of zone) (over id name rest)) (over id name rest)
    by_tests true true test = rw test refl
    by_tests true false test = rw test refl
    by_tests false here test = refl

-- no zone is seen behind the last
pub over_end : (id : ReplicaId) (name : Labels) (zones : List ZoneState) → over id name (drop (length zones) zones) ≡ None
unfolding nearest
over_end id name zones = at_drop_all (over id name) zones (length zones) (omega arith)

-- a turn of the search from the end, which comes to a zone that is over the name
pub over_more : (id : ReplicaId) (name : Labels) (zones : List ZoneState) (at : ℕ) (zone : ZoneState) (found : Option ZoneSeen) → 0 < at → at ≤ length zones
    → get_or zones (at - 1) zone ≡ zone → (is_of id zone && is_over name (view_of zone)) ≡ true → found ≡ over id name (drop at zones)
    → nearer (view_of zone) found ≡ over id name (drop (at - 1) zones)
over_more id name zones at zone found some within is covers same =
    let next : (at - 1) + 1 ≡ at = omega (arith, some) in
    let step = at_drop_more (over id name) zones (at - 1) zone (omega (arith, some, within)) in
    ap (nearer (view_of zone)) same
    ∙ sym (step ∙ ap (λ (first : ZoneState). over id name (first ∷ drop (at - 1 + 1) zones)) is ∙ one_more id name zone (drop (at - 1 + 1) zones)
    ∙ ap (λ (test : Bool). cond test (nearer (view_of zone) (over id name (drop (at - 1 + 1) zones))) (over id name (drop (at - 1 + 1) zones))) covers
    ∙ ap (λ (n : ℕ). nearer (view_of zone) (over id name (drop n zones))) next)

-- ---- a valid world

pub zone_servable : (zone : ZoneState) → IsValidZone zone → IsServable (view_of zone)
zone_servable zone valid = record { host = valid.host; data_valid = zone_data zone valid; named = zone_named zone valid }

views_servable : (zones : List ZoneState) → AllByRecursion IsValidZone zones → AllByRecursion IsServable (map view_of zones)
views_servable [] all = tt
views_servable (zone ∷ zones) all = (zone_servable zone all.0, views_servable zones all.1)

replica_servable : (world : WorldState) (found : Option Replica) → IsValidWorld world
    → AllByRecursion IsServable (option_map_or (λ replica. zones_of world replica.id) found [])
unfolding zones_of
replica_servable world None valid = tt
replica_servable world (Some replica) valid = views_servable (filter (is_of replica.id) world.zones) (all_filter IsValidZone (is_of replica.id) world.zones valid.zones)

zones_servable : (world : WorldState) → IsValidWorld world → (at : ℕ) → AllByRecursion IsServable (zones_at world at)
unfolding zones_at
zones_servable world valid at = replica_servable world (slice_get world.replicas at) valid

-- each datagram can be replied to
pub datagram_repliable : (world : WorldState) → IsValidWorld world → (at : ℕ) (request : List ℕ) → IsRepliable request (received_at world at request)
datagram_repliable world valid at request = repliable (zones_at world at) (zones_servable world valid at) request

-- and the reply is read as what there is to say
pub read_rightly : AnswersAreSendable → (world : WorldState) → IsValidWorld world → (at : ℕ) (request : List ℕ) → IsReadRightly world at request (reply_to world at request)
read_rightly sendable world valid at request = read_as sendable request (received_at world at request) (datagram_repliable world valid at request)
