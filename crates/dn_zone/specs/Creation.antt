-- A zone that is new on a replica: created, or copied from another.
use Rattle.std.specs.Prelude.{ℕ, List, [], ◌∷◌, ◌++◌, None}
use Rattle.dn_io.specs.Moments.{seconds_of}
use Rattle.dn_name.specs.Name.{Labels, lowered, wire_of}
use Rattle.dn_property.specs.declared.property.Property.{Property}
use Rattle.dn_property.specs.Ids.{AGING_ENABLED_TIME, AGING_STATE, ALLOW_UPDATE, NOREFRESH_INTERVAL, REFRESH_INTERVAL, ZONE_TYPE}
use Rattle.dn_stamp.specs.declared.stamp.ReplicaId.{ReplicaId}
use Rattle.dn_stamp.specs.Stamp.{first_stamp}
use Rattle.dn_rdata.specs.declared.record.Record.{Record}
use Rattle.dn_rdata.specs.Record.{made}
use Rattle.dn_rdata.specs.Types.{NS, SOA}
use Rattle.dn_store.specs.declared.unit.UnitKey.TheVariants as keys
use Rattle.dn_store.specs.declared.unit.UnitValue.TheVariants.{Live}
use Rattle.dn_store.specs.declared.unit.UnitValue.TheVariants as values
use Rattle.dn_store.specs.declared.unit.Write.{Write}
use Rattle.dn_update.specs.Writes.{with_writes}
use Rattle.dn_zone.specs.State.{ZoneState}
use Rattle.dn_zone.specs.Settings.{property}

-- the properties of a new zone: type primary, updates allowed, both intervals 168 hours, aging off
unfoldable pub first_properties : List Property
first_properties =
    property ZONE_TYPE (1 ∷ 0 ∷ 0 ∷ 0 ∷ [])
    ∷ property ALLOW_UPDATE (1 ∷ [])
    ∷ property NOREFRESH_INTERVAL (168 ∷ 0 ∷ 0 ∷ 0 ∷ [])
    ∷ property AGING_ENABLED_TIME (0 ∷ 0 ∷ 0 ∷ 0 ∷ [])
    ∷ property REFRESH_INTERVAL (168 ∷ 0 ∷ 0 ∷ 0 ∷ [])
    ∷ property AGING_STATE (0 ∷ 0 ∷ 0 ∷ 0 ∷ [])
    ∷ []

-- serial 1, refresh 900, retry 600, expire 86400, minimum 3600, big-endian
unfoldable pub first_numbers : List ℕ
first_numbers =
    0 ∷ 0 ∷ 0 ∷ 1 ∷ 0 ∷ 0 ∷ 3 ∷ 132 ∷ 0 ∷ 0 ∷ 2 ∷ 88 ∷ 0 ∷ 1 ∷ 81 ∷ 128 ∷ 0 ∷ 0 ∷ 14 ∷ 16 ∷ []

-- the records at the apex of a new zone
unfoldable pub first_rows : Labels → Labels → List Record
first_rows host mailbox =
    made NS 3600 0 (wire_of host) ∷ made SOA 3600 0 (wire_of host ++ wire_of mailbox ++ first_numbers) ∷ []

unfoldable pub first_writes : ReplicaId → Labels → Labels → Labels → ℕ → List Write
first_writes id host apex mailbox ticks =
    let stamp = first_stamp id (seconds_of ticks) in
    record { key = keys.Props; stamp = stamp; value = values.Props first_properties }
    ∷ record { key = keys.Node (lowered apex); stamp = stamp; value = Live (first_rows host mailbox) }
    ∷ []

unfoldable pub created : ReplicaId → Labels → Labels → Labels → ℕ → ZoneState
created id host apex mailbox ticks =
    record { id = id; host = host; apex = lowered apex; table = with_writes (first_writes id host apex mailbox ticks) ([], 0); cursors = []; pass = None }

-- a zone that is copied from another replica: nothing is here yet
unfoldable pub joined_zone : ReplicaId → Labels → Labels → ZoneState
joined_zone id host apex = record { id = id; host = host; apex = lowered apex; table = ([], 0); cursors = []; pass = None }
