-- Proper events keep a world valid.
use Rattle.std.proofs.Common.{◌≡◌, ℕ, zero, suc, ◌+◌, ◌<◌, ◌≤◌, Bool, true, false, true≢false, cond, ◌&&◌, nat_eq, List, [], ◌∷◌, ◌++◌, Option, None, Some, length-append, refl, ap, ap₂, sym, subst, arith, ◌∙◌}
use Rattle.std.proofs.lemmas.Bool.{and_parts, leb-false}
use Rattle.std.specs.Prelude.{count_by, find, position, slice_get, slice_set, nat_le, length}
use Rattle.std.specs.List.{AllByRecursion, list_any}
use lib.Pointwise.{pointwise, pointwise_decides, bytes_decides}
use Rattle.dn_name.specs.Name.{IsName, Labels, is_same, lowered}
use Rattle.dn_stamp.specs.declared.stamp.ReplicaId.{ReplicaId}
use Rattle.dn_stamp.specs.Stamp.{is_id}
use Rattle.dn_store.proofs.CallerLemmas.{all_then, and_both, lower_lowered, same_lower}
use Rattle.dn_link.specs.declared.packet.Changes.{Changes}
use Rattle.dn_link.specs.declared.packet.Packet.{Packet}
use Rattle.dn_link.specs.declared.packet.Packet.TheVariants as packets
use Rattle.dn_link.specs.Sent.{IsValidRun}
use Rattle.dn_zone.specs.declared.event.Event.{Event}
use Rattle.dn_zone.specs.declared.event.Event.TheVariants as zone_events
use Rattle.dn_zone.specs.State.{ZoneState}
use Rattle.dn_zone.specs.Creation.{created, joined_zone}
use Rattle.dn_zone.specs.Merge.{changes_of, pull_of}
use Rattle.dn_zone.specs.Valid.{IsProperEvent, IsValidZone, Meets}
use Rattle.dn_zone.specs.Zone.{zstep}
use Rattle.dn_zone.proofs.CallerLemmas.{IsSameZone, changes_valid, created_valid, event_same, event_valid, joined_valid, pull_valid}
use Rattle.dn_world.specs.declared.event.WorldAnswer.{WorldAnswer}
use Rattle.dn_world.specs.declared.event.WorldAnswer.TheVariants.{Made}
use Rattle.dn_world.specs.declared.event.WorldEvent.{WorldEvent}
use Rattle.dn_world.specs.declared.event.WorldEvent.TheVariants as events
use Rattle.dn_world.specs.declared.event.WorldNo.{WorldNo}
use Rattle.dn_world.specs.declared.event.WorldNo.TheVariants.{Full, ZoneThere}
use Rattle.dn_world.specs.declared.world.Post.{Post}
use Rattle.dn_world.specs.declared.world.Replica.{Replica}
use Rattle.dn_world.specs.State.{WorldState}
use Rattle.dn_world.specs.Runs.{AreProper, HasReplica, IsProper, IsValidPost, IsValidWorld, run_from, same_id, same_zone, wrun}
use Rattle.dn_world.specs.World.{act_at, act_in, answer_pull, deliver_post, deliver_to, empty_world, has_id, has_zone, is_of, is_zone, packet_limit, post_at, pull_between, replica_limit, sent, set_zone, with_replica, with_zone, wstep, wstep_act, wstep_pull, wstep_replica, wstep_zone, zone_limit, zone_of, zone_unless}
use Rattle.dn_world.proofs.DifferLemmas.{any_found, any_more, any_same, any_set, count_more, count_set, find_more, found_alone, no_two_more, no_two_set}
use Rattle.dn_world.proofs.SlotLemmas.{all_get, all_one_more, all_set, found_holds, position_found}

-- ---- ids and apexes that are the same

same_bytes : (one other : ReplicaId) → is_id one other ≡ true → one.0 ≡ other.0
same_bytes one other same = (bytes_decides one.0 other.0).0 same

id_itself : (id : ReplicaId) → is_id id id ≡ true
id_itself id = (bytes_decides id.0 id.0).1 refl

id_like : (one other third : ReplicaId) → is_id one other ≡ true → is_id one third ≡ is_id other third
id_like one other third same = ap (λ (bytes : List ℕ). pointwise nat_eq bytes third.0) (same_bytes one other same)

id_like_to : (third one other : ReplicaId) → is_id one other ≡ true → is_id third one ≡ is_id third other
id_like_to third one other same = ap (λ (bytes : List ℕ). pointwise nat_eq third.0 bytes) (same_bytes one other same)

apart_by : (b : Bool) (one other : ReplicaId) → is_id other one ≡ b → is_id one other ≡ false → b ≡ false
apart_by true one other is apart =
    let same : is_id one other ≡ true = (bytes_decides one.0 other.0).1 (sym (same_bytes other one is)) in
    absurd (true≢false (sym same ∙ apart))
apart_by false one other is apart = refl

apart_back : (one other : ReplicaId) → is_id one other ≡ false → is_id other one ≡ false
apart_back one other apart = apart_by (is_id other one) one other refl apart

labels_decide : (left right : Labels) → (pointwise (pointwise nat_eq) left right ≡ true → left ≡ right) × (left ≡ right → pointwise (pointwise nat_eq) left right ≡ true)
labels_decide = pointwise_decides bytes_decides

apex_itself : (apex : Labels) → is_same apex apex ≡ true
apex_itself apex = (labels_decide (lowered apex) (lowered apex)).1 refl

apex_like : (third one other : Labels) → is_same one other ≡ true → is_same third one ≡ is_same third other
apex_like third one other same = ap (λ (name : Labels). pointwise (pointwise nat_eq) (lowered third) name) ((labels_decide (lowered one) (lowered other)).0 same)

apex_lowered : (third apex : Labels) → is_same third (lowered apex) ≡ is_same third apex
apex_lowered third apex =
    ap (λ (name : Labels). pointwise (pointwise nat_eq) (lowered third) name) (sym ((labels_decide (lowered apex) (lowered (lowered apex))).0 (lower_lowered apex)))

zone_itself : (zone : ZoneState) → is_zone zone.id zone.apex zone ≡ true
zone_itself zone = and_both (is_id zone.id zone.id) (is_same zone.apex zone.apex) (id_itself zone.id) (apex_itself zone.apex)

-- the tests of a zone that stays the same replica's
kept_zone : (zone after : ZoneState) → IsSameZone zone after → (id : ReplicaId) (apex : Labels) → is_zone id apex after ≡ is_zone id apex zone
kept_zone zone after same id apex = ap₂ (λ (own : ReplicaId) (name : Labels). is_id own id && is_same name apex) same.id same.apex

kept_other : (zone after other : ZoneState) → IsSameZone zone after → same_zone other after ≡ same_zone other zone
kept_other zone after other same = ap₂ (λ (own : ReplicaId) (name : Labels). is_id other.id own && is_same other.apex name) same.id same.apex

abbrev HasNamed : List Replica → ReplicaId → Labels → Type 0
HasNamed replicas id host = find (has_id id) replicas ≡ Some (record { id = id; host = host })

kept_owner : (replicas : List Replica) (zone after : ZoneState) → IsSameZone zone after → HasReplica replicas zone → HasReplica replicas after
kept_owner replicas zone after same has =
    subst (λ (host : Labels). HasNamed replicas after.id host) (sym same.host) (subst (λ (id : ReplicaId). HasNamed replicas id zone.host) (sym same.id) has)

-- ---- one change of a world

-- packets stay valid where each zone that was there is there
posts_kept : (zones after : List ZoneState) (posts : List Post) → ((id : ReplicaId) (apex : Labels) → has_zone zones id apex ≡ true → has_zone after id apex ≡ true)
    → AllByRecursion (IsValidPost zones) posts → AllByRecursion (IsValidPost after) posts
posts_kept zones after posts on all =
    all_then (IsValidPost zones) (IsValidPost after) posts
    (λ post valid.
    record { packet = valid.packet; sender = on _ _ valid.sender; receiver = on _ _ valid.receiver; apart = valid.apart }) all

zone_changed : (world : WorldState) (at : ℕ) (old new : ZoneState) → IsValidWorld world → slice_get world.zones at ≡ Some old → IsSameZone old new → IsValidZone new
    → IsValidWorld (set_zone world at new)
zone_changed world at old new valid is same holds =
    record {
      hosts = valid.hosts;
      ids = valid.ids;
      zones = all_set IsValidZone world.zones at new valid.zones holds;
      owners =
          all_set (HasReplica world.replicas) world.zones at new valid.owners
          (kept_owner world.replicas old new same (all_get (HasReplica world.replicas) world.zones at old valid.owners is));
      apexes = no_two_set same_zone world.zones at old new is (λ other. kept_zone old new same other.id other.apex) (λ other. kept_other old new other same) valid.apexes;
      packets =
          posts_kept world.zones (slice_set world.zones at new) world.packets
          (λ id apex has. any_set (is_zone id apex) world.zones at old new is (kept_zone old new same id apex) ∙ has) valid.packets;
      limits =
          record {
            replicas = valid.limits.replicas;
            zones = λ id.
                subst (λ (count : ℕ). count ≤ zone_limit) (sym (count_set (is_of id) world.zones at old new is (ap (λ (own : ReplicaId). is_id own id) same.id)))
                (valid.limits.zones id);
            packets = valid.limits.packets;
          };
    }

-- what a new zone of a replica is
record IsOwn (replica : Replica) (named : Labels) (zone : ZoneState) : Type 0 where
  id : zone.id ≡ replica.id
  host : zone.host ≡ replica.host
  apex : zone.apex ≡ lowered named
  valid : IsValidZone zone

own_owner : (world : WorldState) (at : ℕ) (replica : Replica) (apex : Labels) (zone : ZoneState) → IsValidWorld world → slice_get world.replicas at ≡ Some replica → IsOwn replica apex zone
    → HasReplica world.replicas zone
own_owner world at replica apex zone valid is own =
    let found : HasNamed world.replicas replica.id replica.host = found_alone same_id world.replicas at replica valid.ids is (id_itself replica.id) in
    subst (λ (host : Labels). HasNamed world.replicas zone.id host) (sym own.host) (subst (λ (id : ReplicaId). HasNamed world.replicas id replica.host) (sym own.id) found)

own_apart : (world : WorldState) (replica : Replica) (apex : Labels) (zone : ZoneState) → IsOwn replica apex zone → list_any (is_zone replica.id apex) world.zones ≡ false
    → list_any (is_zone zone.id zone.apex) world.zones ≡ false
own_apart world replica apex zone own none =
    any_same (is_zone zone.id zone.apex) (is_zone replica.id apex) world.zones
    (λ one.
    ap₂ (λ (id : ReplicaId) (name : Labels). is_id one.id id && is_same one.apex name) own.id own.apex
    ∙ ap (λ (b : Bool). is_id one.id replica.id && b) (apex_lowered one.apex apex)) ∙ none

count_like : (zones : List ZoneState) (one other : ReplicaId) → is_id one other ≡ true → count_by (is_of one) zones ≡ count_by (is_of other) zones
count_like zones one other same = ap (λ (test : ZoneState → Bool). count_by test zones) (λ i zone. id_like_to zone.id one other same i)

zone_added : (world : WorldState) (zone : ZoneState) → IsValidWorld world → IsValidZone zone → HasReplica world.replicas zone → list_any (is_zone zone.id zone.apex) world.zones ≡ false
    → count_by (is_of zone.id) world.zones < zone_limit → IsValidWorld (with_zone world zone)
zone_added world zone valid new owner none room =
    record {
      hosts = valid.hosts;
      ids = valid.ids;
      zones = all_one_more IsValidZone world.zones zone valid.zones new;
      owners = all_one_more (HasReplica world.replicas) world.zones zone valid.owners owner;
      apexes = no_two_more same_zone world.zones zone valid.apexes none;
      packets = posts_kept world.zones (world.zones ++ zone ∷ []) world.packets (λ id apex has. any_more (is_zone id apex) world.zones zone has) valid.packets;
      limits =
          record {
            replicas = valid.limits.replicas;
            zones = λ id.
                count_more (is_of id) world.zones zone zone_limit (is_of id zone) refl (valid.limits.zones id)
                (λ same. subst (λ (count : ℕ). count < zone_limit) (count_like world.zones zone.id id same) room);
            packets = valid.limits.packets;
          };
    }

abbrev NamedReplica : Replica → Type 0
NamedReplica replica = IsName replica.host

one_more : {A : Type 0} (list : List A) (one : A) (limit : ℕ) → length list < limit → length (list ++ one ∷ []) ≤ limit
one_more list one limit room =
    let longer : length (list ++ one ∷ []) ≡ length list + length (one ∷ []) = length-append list (one ∷ []) in
    omega arith

replica_added : (world : WorldState) (replica : Replica) → IsValidWorld world → IsName replica.host → list_any (has_id replica.id) world.replicas ≡ false
    → length world.replicas < replica_limit → IsValidWorld (with_replica world replica)
replica_added world replica valid named none room =
    record {
      hosts = all_one_more NamedReplica world.replicas replica valid.hosts named;
      ids = no_two_more same_id world.replicas replica valid.ids none;
      zones = valid.zones;
      owners =
          all_then (HasReplica world.replicas) (HasReplica (world.replicas ++ replica ∷ [])) world.zones
          (λ zone has. find_more (has_id zone.id) world.replicas (record { id = zone.id; host = zone.host }) replica has) valid.owners;
      apexes = valid.apexes;
      packets = valid.packets;
      limits =
          record { replicas = one_more world.replicas replica replica_limit room; zones = valid.limits.zones; packets = valid.limits.packets };
    }

sent_by : (full : Bool) (world : WorldState) (to : ReplicaId) (packet : Packet) (one other : WorldAnswer) → nat_le packet_limit (length world.packets) ≡ full → IsValidWorld world
    → IsValidPost world.zones (record { to = to; packet = packet })
    → IsValidWorld (cond {A = WorldState × WorldAnswer} full (world, one) (record world { packets = world.packets ++ record { to = to; packet = packet } ∷ [] }, other)).0
sent_by true world to packet one other is valid new = valid
sent_by false world to packet one other is valid new =
    record {
      hosts = valid.hosts;
      ids = valid.ids;
      zones = valid.zones;
      owners = valid.owners;
      apexes = valid.apexes;
      packets = all_one_more (IsValidPost world.zones) world.packets (record { to = to; packet = packet }) valid.packets new;
      limits =
          record {
            replicas = valid.limits.replicas;
            zones = valid.limits.zones;
            packets = one_more world.packets (record { to = to; packet = packet }) packet_limit (leb-false packet_limit (length world.packets) is);
          };
    }

packet_sent : (world : WorldState) (to : ReplicaId) (packet : Packet) → IsValidWorld world → IsValidPost world.zones (record { to = to; packet = packet }) → IsValidWorld (sent world to packet).0
packet_sent world to packet valid new = sent_by (nat_le packet_limit (length world.packets)) world to packet _ _ refl valid new

-- ---- replicas and zones

replica_by : (taken full : Bool) (world : WorldState) (replica : Replica) (one other going : WorldAnswer) → list_any (has_id replica.id) world.replicas ≡ taken
    → nat_le replica_limit (length world.replicas) ≡ full → IsValidWorld world → IsName replica.host
    → IsValidWorld (cond {A = WorldState × WorldAnswer} taken (world, one) (cond {A = WorldState × WorldAnswer} full (world, other) (with_replica world replica, going))).0
replica_by true full world replica one other going is within valid named = valid
replica_by false true world replica one other going is within valid named = valid
replica_by false false world replica one other going is within valid named =
    replica_added world replica valid named is (leb-false replica_limit (length world.replicas) within)

replica_made : (world : WorldState) (id : ReplicaId) (host : Labels) → IsValidWorld world → IsName host → IsValidWorld (wstep_replica world id host).0
unfolding wstep_replica
replica_made world id host valid named =
    replica_by (list_any (has_id id) world.replicas) (nat_le replica_limit (length world.replicas)) world (record { id = id; host = host }) _ _ _ refl refl valid named

room_by : (there full : Bool) (world : WorldState) (at : ℕ) (replica : Replica) (apex : Labels) (zone : ZoneState) → list_any (is_zone replica.id apex) world.zones ≡ there
    → nat_le zone_limit (count_by (is_of replica.id) world.zones) ≡ full → IsValidWorld world → slice_get world.replicas at ≡ Some replica → IsOwn replica apex zone
    → IsValidWorld (zone_unless (cond {A = Option WorldNo} there (Some ZoneThere) (cond {A = Option WorldNo} full (Some Full) None)) world zone).0
room_by true full world at replica apex zone is within valid found own = valid
room_by false true world at replica apex zone is within valid found own = valid
room_by false false world at replica apex zone is within valid found own =
    let room : count_by (is_of replica.id) world.zones < zone_limit = leb-false zone_limit (count_by (is_of replica.id) world.zones) within in
    zone_added world zone valid own.valid (own_owner world at replica apex zone valid found own) (own_apart world replica apex zone own is)
    (subst (λ (id : ReplicaId). count_by (is_of id) world.zones < zone_limit) (sym own.id) room)

zone_made_by : (world : WorldState) (at : ℕ) (found : Option Replica) (apex : Labels) (make : Replica → ZoneState) → slice_get world.replicas at ≡ found → IsValidWorld world
    → ((replica : Replica) → slice_get world.replicas at ≡ Some replica → IsOwn replica apex (make replica)) → IsValidWorld (wstep_zone world found apex make).0
unfolding wstep_zone
zone_made_by world at None apex make is valid own = valid
zone_made_by world at (Some replica) apex make is valid own =
    room_by (list_any (is_zone replica.id apex) world.zones) (nat_le zone_limit (count_by (is_of replica.id) world.zones)) world at replica apex (make replica) refl refl valid is
    (own replica is)

zone_made : (world : WorldState) (at : ℕ) (apex : Labels) (make : Replica → ZoneState) → IsValidWorld world
    → ((replica : Replica) → slice_get world.replicas at ≡ Some replica → IsOwn replica apex (make replica)) → IsValidWorld (wstep_zone world (slice_get world.replicas at) apex make).0
zone_made world at apex make valid own = zone_made_by world at (slice_get world.replicas at) apex make refl valid own

host_named : (world : WorldState) (at : ℕ) (replica : Replica) → IsValidWorld world → slice_get world.replicas at ≡ Some replica → IsName replica.host
host_named world at replica valid is = all_get NamedReplica world.replicas at replica valid.hosts is

created_own : (replica : Replica) (apex mailbox : Labels) (moment : ℕ) → IsName replica.host → IsName apex → IsName mailbox
    → IsOwn replica apex (created replica.id replica.host apex mailbox moment)
unfolding created
created_own replica apex mailbox moment named zone_named boxed =
    record { id = refl; host = refl; apex = refl; valid = created_valid replica.id replica.host apex mailbox moment named zone_named boxed }

joined_own : (replica : Replica) (apex : Labels) → IsName replica.host → IsName apex → IsOwn replica apex (joined_zone replica.id replica.host apex)
unfolding joined_zone
joined_own replica apex named zone_named = record { id = refl; host = refl; apex = refl; valid = joined_valid replica.id replica.host apex named zone_named }

-- ---- an event of a zone

acted_in : (world : WorldState) (event : Event) (at : ℕ) (found : Option ZoneState) → slice_get world.zones at ≡ found → IsValidWorld world
    → ((zone : ZoneState) → slice_get world.zones at ≡ Some zone → Meets zone event) → IsValidWorld (act_in world event at found).0
acted_in world event at None is valid meets = valid
acted_in world event at (Some zone) is valid meets =
    zone_changed world at zone (zstep zone event).0 valid is (event_same zone event)
    (event_valid zone event (all_get IsValidZone world.zones at zone valid.zones is) (meets zone is))

acted : (world : WorldState) (event : Event) (found : Option ℕ) → IsValidWorld world
    → ((at : ℕ) (zone : ZoneState) → found ≡ Some at → slice_get world.zones at ≡ Some zone → Meets zone event) → IsValidWorld (act_at world event found).0
acted world event None valid meets = valid
acted world event (Some at) valid meets = acted_in world event at (slice_get world.zones at) refl valid (λ zone is. meets at zone refl is)

-- a proper event is one that each zone meets
proper_meets : (zone : ZoneState) (event : Event) → IsProperEvent event → Meets zone event
proper_meets zone (zone_events.Admin cmd moment) proper = proper
proper_meets zone (zone_events.Begin moment) proper = proper
proper_meets zone (zone_events.Step most) proper = proper
proper_meets zone (zone_events.Merge changes) proper = absurd proper

acted_by : (world : WorldState) (found : Option Replica) (apex : Labels) (event : Event) → IsValidWorld world → IsProperEvent event → IsValidWorld (wstep_act world found apex event).0
unfolding wstep_act
acted_by world None apex event valid proper = valid
acted_by world (Some replica) apex event valid proper =
    acted world event (position (is_zone replica.id apex) world.zones) valid (λ at zone placed is. proper_meets zone event proper)

-- valid changes are merged into the zone of their apex
merged : (world : WorldState) (to : ReplicaId) (changes : Changes) → IsValidWorld world → IsValidRun changes
    → IsValidWorld (act_at world (zone_events.Merge changes) (position (is_zone to changes.zone) world.zones)).0
merged world to changes valid run =
    let test : ZoneState → Bool = is_zone to changes.zone in
    acted world (zone_events.Merge changes) (position test world.zones) valid
    (λ at zone placed is.
    let found : find test world.zones ≡ Some zone = sym (position_found test world.zones at placed) ∙ is in
    let holds : (test zone ≡ true) × IsValidZone zone = found_holds IsValidZone test world.zones zone valid.zones found in
    let same = and_parts (is_of to zone) (is_same zone.apex changes.zone) holds.0 in
    (run, sym (same_lower zone.apex changes.zone same.1 holds.1.lower run.lower)))

-- ---- packets

-- a zone that is found by a test
record IsThere (world : WorldState) (id : ReplicaId) (apex : Labels) (zone : ZoneState) : Type 0 where
  found : find (is_zone id apex) world.zones ≡ Some zone
  valid : IsValidZone zone
  id_is : is_id zone.id id ≡ true
  apex_is : is_same zone.apex apex ≡ true

there : (world : WorldState) (id : ReplicaId) (apex : Labels) (zone : ZoneState) → IsValidWorld world → zone_of world id apex ≡ Some zone → IsThere world id apex zone
there world id apex zone valid is =
    let holds : (is_zone id apex zone ≡ true) × IsValidZone zone = found_holds IsValidZone (is_zone id apex) world.zones zone valid.zones is in
    let parts = and_parts (is_of id zone) (is_same zone.apex apex) holds.0 in
    record { found = is; valid = holds.1; id_is = parts.0; apex_is = parts.1 }

pull_post : (world : WorldState) (by of : ReplicaId) (apex : Labels) (own theirs : ZoneState) → IsThere world by apex own → IsThere world of apex theirs → is_id by of ≡ false
    → IsValidPost world.zones (record { to = of; packet = pull_of own of })
pull_post world by of apex own theirs here other apart =
    record {
      packet = pull_valid own of here.valid;
      sender = any_found (is_zone by apex) (is_zone own.id own.apex) world.zones own here.found (zone_itself own);
      receiver =
          any_found (is_zone of apex) (is_zone of own.apex) world.zones theirs other.found
          (and_both (is_id theirs.id of) (is_same theirs.apex own.apex) other.id_is (apex_like theirs.apex own.apex apex here.apex_is ∙ other.apex_is));
      apart = id_like own.id by of here.id_is ∙ apart;
    }

pull_by : (same : Bool) (world : WorldState) (by of : Replica) (apex : Labels) (own theirs : ZoneState) (one : WorldAnswer) → is_id by.id of.id ≡ same → IsValidWorld world
    → IsThere world by.id apex own → IsThere world of.id apex theirs → IsValidWorld (cond {A = WorldState × WorldAnswer} same (world, one) (sent world of.id (pull_of own of.id))).0
pull_by true world by of apex own theirs one is valid here other = valid
pull_by false world by of apex own theirs one is valid here other = packet_sent world of.id _ valid (pull_post world by.id of.id apex own theirs here other is)

pulled_between : (world : WorldState) (by of : Replica) (apex : Labels) (own theirs : Option ZoneState) → IsValidWorld world → ((zone : ZoneState) → own ≡ Some zone → IsThere world by.id apex zone)
    → ((zone : ZoneState) → theirs ≡ Some zone → IsThere world of.id apex zone) → IsValidWorld (pull_between world by of own theirs).0
pulled_between world by of apex None theirs valid here other = valid
pulled_between world by of apex (Some own) None valid here other = valid
pulled_between world by of apex (Some own) (Some theirs) valid here other =
    pull_by (is_id by.id of.id) world by of apex own theirs _ refl valid (here own refl) (other theirs refl)

pulled : (world : WorldState) (by of : Option Replica) (apex : Labels) → IsValidWorld world → IsValidWorld (wstep_pull world by of apex).0
unfolding wstep_pull
pulled world None of apex valid = valid
pulled world (Some by) None apex valid = valid
pulled world (Some by) (Some of) apex valid =
    pulled_between world by of apex (zone_of world by.id apex) (zone_of world of.id apex) valid (λ zone is. there world by.id apex zone valid is)
    (λ zone is. there world of.id apex zone valid is)

answer_post : (world : WorldState) (to from : ReplicaId) (apex : Labels) (after : ℕ) (zone : ZoneState) → IsThere world to apex zone → has_zone world.zones from apex ≡ true → is_id from to ≡ false
    → IsValidPost world.zones (record { to = from; packet = packets.Changes (changes_of zone.table zone.apex zone.id after) })
unfolding changes_of
answer_post world to from apex after zone here has apart =
    record {
      packet = changes_valid zone after here.valid;
      sender = any_found (is_zone to apex) (is_zone zone.id zone.apex) world.zones zone here.found (zone_itself zone);
      receiver =
          any_same (is_zone from zone.apex) (is_zone from apex) world.zones
          (λ one. ap (λ (b : Bool). is_id one.id from && b) (apex_like one.apex zone.apex apex here.apex_is)) ∙ has;
      apart = id_like zone.id to from here.id_is ∙ apart_back from to apart;
    }

answered : (world : WorldState) (to from : ReplicaId) (apex : Labels) (after : ℕ) (found : Option ZoneState) → IsValidWorld world → has_zone world.zones from apex ≡ true → is_id from to ≡ false
    → ((zone : ZoneState) → found ≡ Some zone → IsThere world to apex zone) → IsValidWorld (answer_pull world from after found).0
answered world to from apex after None valid has apart holds = valid
answered world to from apex after (Some zone) valid has apart holds =
    packet_sent world from _ valid (answer_post world to from apex after zone (holds zone refl) has apart)

delivered_to : (world : WorldState) (to : ReplicaId) (packet : Packet) → IsValidWorld world → IsValidPost world.zones (record { to = to; packet = packet }) → IsValidWorld (deliver_to world to packet).0
unfolding deliver_to
delivered_to world to (packets.Pull apex from after) valid post =
    answered world to from apex after (zone_of world to apex) valid post.sender post.apart (λ zone is. there world to apex zone valid is)
delivered_to world to (packets.Changes changes) valid post = merged world to changes valid post.packet

delivered : (world : WorldState) (found : Option Post) → IsValidWorld world → ((post : Post) → found ≡ Some post → IsValidPost world.zones post) → IsValidWorld (deliver_post world found).0
delivered world None valid holds = valid
delivered world (Some post) valid holds = delivered_to world post.to post.packet valid (holds post refl)

post_valid : (world : WorldState) (number : ℕ) (post : Post) → IsValidWorld world → post_at world.packets number ≡ Some post → IsValidPost world.zones post
post_valid world zero post valid is = absurd (cc)
post_valid world (suc before) post valid is = all_get (IsValidPost world.zones) world.packets before post valid.packets is

-- ---- each event, and lists of them

event_keeps : (world : WorldState) (event : WorldEvent) → IsValidWorld world → IsProper event → IsValidWorld (wstep world event).0
unfolding wstep
event_keeps world (events.Replica id host) valid proper = replica_made world id host valid proper
event_keeps world (events.Create at apex mailbox moment) valid proper =
    zone_made world at apex _ valid (λ replica is. created_own replica apex mailbox moment (host_named world at replica valid is) proper.0 proper.1)
event_keeps world (events.Join at apex) valid proper =
    zone_made world at apex _ valid (λ replica is. joined_own replica apex (host_named world at replica valid is) proper)
event_keeps world (events.Act at apex event) valid proper = acted_by world (slice_get world.replicas at) apex event valid proper.1
event_keeps world (events.Pull by of apex) valid proper = pulled world (slice_get world.replicas by) (slice_get world.replicas of) apex valid
event_keeps world (events.Deliver number) valid proper =
    delivered world (post_at world.packets number) valid (λ post is. post_valid world number post valid is)

-- from a valid world
pub run_keeps : (now : WorldState × WorldAnswer) (list : List WorldEvent) → IsValidWorld now.0 → AreProper list → IsValidWorld (run_from now list).0
run_keeps now [] valid proper = valid
run_keeps now (event ∷ rest) valid proper = run_keeps (wstep now.0 event) rest (event_keeps now.0 event valid proper.0) proper.1

empty_valid : IsValidWorld empty_world
unfolding empty_world
empty_valid =
    record {
      hosts = tt;
      ids = tt;
      zones = tt;
      owners = tt;
      apexes = tt;
      packets = tt;
      limits = record { replicas = omega arith; zones = λ id. omega arith; packets = omega arith };
    }

-- proper events run to a valid world
pub run_valid : (list : List WorldEvent) → AreProper list → IsValidWorld (wrun list)
unfolding wrun
run_valid list proper = run_keeps (empty_world, Made) list empty_valid proper
