-- The names of the properties of a zone (MS-DNSP 2.3.2.1.1).
use Rattle.std.specs.Prelude.{ℕ, nat_eq, if◌then◌else◌, List, [], ◌∷◌, codes, decimal, Option, None, Some}
use Rattle.dn_property.specs.Ids.{AGING_ENABLED_TIME, AGING_STATE, ALLOW_UPDATE, AUTO_NS_SERVERS, DCPROMO_CONVERT, DELETED_FROM_HOSTNAME, MASTER_SERVERS, NODE_DBFLAGS, NOREFRESH_INTERVAL, REFRESH_INTERVAL, SCAVENGING_SERVERS, SECURE_TIME, ZONE_TYPE}
use Rattle.dn_word.specs.Words.{is_word}

pub record Named : Type 0 where
  pub id : ℕ
  pub name : List ℕ

abbrev named : ℕ → List ℕ → Named
named id name = record { id = id; name = name }

-- the properties that have names
abbrev pub properties : List Named
properties =
    named ZONE_TYPE (codes "ZONE_TYPE")
    ∷ named ALLOW_UPDATE (codes "ALLOW_UPDATE")
    ∷ named SECURE_TIME (codes "SECURE_TIME")
    ∷ named NOREFRESH_INTERVAL (codes "NOREFRESH_INTERVAL")
    ∷ named SCAVENGING_SERVERS (codes "SCAVENGING_SERVERS")
    ∷ named AGING_ENABLED_TIME (codes "AGING_ENABLED_TIME")
    ∷ named REFRESH_INTERVAL (codes "REFRESH_INTERVAL")
    ∷ named AGING_STATE (codes "AGING_STATE")
    ∷ named DELETED_FROM_HOSTNAME (codes "DELETED_FROM_HOSTNAME")
    ∷ named MASTER_SERVERS (codes "MASTER_SERVERS")
    ∷ named AUTO_NS_SERVERS (codes "AUTO_NS_SERVERS")
    ∷ named DCPROMO_CONVERT (codes "DCPROMO_CONVERT")
    ∷ named NODE_DBFLAGS (codes "NODE_DBFLAGS")
    ∷ []

abbrev pub property_name_in : List Named → ℕ → List ℕ
property_name_in [] id = decimal id
property_name_in (entry ∷ entries) id = if nat_eq id entry.id then entry.name else property_name_in entries id

-- the name of a property, or the number of one that has none
unfoldable pub id_text : ℕ → List ℕ
id_text id = property_name_in properties id

abbrev pub id_in : List Named → List ℕ → Option ℕ
id_in [] word = None
id_in (entry ∷ entries) word = if is_word word entry.name then Some entry.id else id_in entries word

-- the property of this name
unfoldable pub id_named : List ℕ → Option ℕ
id_named word = id_in properties word
