-- What a merge makes of each key: the join of what stood there and of what came.
use Rattle.std.specs.Prelude.{◌≡◌, List, Option, None, Some, ⊤}
use Rattle.std.specs.List.{AllByRecursion}
use Rattle.dn_stamp.specs.declared.join.Stamped.{Stamped}
use Rattle.dn_stamp.specs.Join.{greater}
use Rattle.dn_store.specs.declared.unit.Unit as units
use Rattle.dn_store.specs.declared.unit.UnitKey.{UnitKey}
use Rattle.dn_store.specs.declared.unit.UnitValue.{UnitValue}
use Rattle.dn_store.specs.declared.unit.Write.{Write}
use Rattle.dn_store.specs.Table.{IsNotWritten, unit_at}
use Rattle.dn_link.specs.declared.packet.Changes.{Changes}
use Rattle.dn_zone.specs.declared.zone.Prepared.{Prepared}
use Rattle.dn_zone.specs.declared.zone.Prepared.TheVariants.{Same, Became}
use Rattle.dn_zone.specs.State.{ZoneState}

-- what a write brings, under its stamp
abbrev pub stamped_write : Write → Stamped UnitValue
stamped_write write = record { stamp = write.stamp; value = write.value }

-- what stands under a key, under its stamp
abbrev pub stamped_unit : Option units.Unit → Option (Stamped UnitValue)
stamped_unit None = None
stamped_unit (Some unit) = Some (record { stamp = unit.stamp; value = unit.value })

-- what comes where nothing was, and else the join of both
abbrev pub joined_with : Option (Stamped UnitValue) → Stamped UnitValue → Stamped UnitValue
joined_with None came = came
joined_with (Some old) came = greater old came

-- Under the key of each write stands the join of what stood there and what the write brings, and under each other key the
-- same unit as before.
pub record Joins (writes : List Write) (before after : List units.Unit) : Type 0 where
  pub each : AllByRecursion (λ write. stamped_unit (unit_at write.key after) ≡ Some (joined_with (stamped_unit (unit_at write.key before)) (stamped_write write))) writes
  pub others : (key : UnitKey) → IsNotWritten key writes → unit_at key after ≡ unit_at key before

-- where changes were taken, the zone behind them has joined them
abbrev pub JoinsChanges : Prepared → ZoneState → Changes → Type 0
JoinsChanges (Same answer) zone changes = ⊤
JoinsChanges (Became next answer) zone changes = Joins changes.units zone.table.0 next.table.0
