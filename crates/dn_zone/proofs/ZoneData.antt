-- Where a zone is valid, the data of each of its records are valid for their type, and its nodes' keys are names.
use Rattle.std.specs.List.{AllByRecursion}
use Rattle.dn_store.specs.declared.unit.UnitKey.{UnitKey}
use Rattle.dn_store.specs.Contents.{rows_at, rows_in}
use Rattle.dn_store.specs.Valid.{IsNamedKey}
use Rattle.dn_store.proofs.CallerLemmas.{HasOwnData, rows_at_have, units_have, units_named}
use Rattle.dn_zone.specs.State.{ZoneState}
use Rattle.dn_zone.specs.Valid.{IsValidZone}

-- of each unit
pub zone_data : (zone : ZoneState) → IsValidZone zone → AllByRecursion (λ unit. AllByRecursion HasOwnData (rows_in unit.value)) zone.table.0
zone_data zone valid = units_have zone.apex zone.table.0 valid.units

-- of the node at a key
pub node_data : (zone : ZoneState) (key : UnitKey) → IsValidZone zone → AllByRecursion HasOwnData (rows_at key zone.table.0)
node_data zone key valid = rows_at_have zone.apex key zone.table.0 valid.units

-- the key of each unit
pub zone_named : (zone : ZoneState) → IsValidZone zone → AllByRecursion (λ unit. IsNamedKey unit.key) zone.table.0
zone_named zone valid = units_named zone.apex zone.table.0 valid.units
