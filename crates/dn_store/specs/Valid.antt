-- Which units and writes are valid in the zone with an apex.
use Rattle.std.specs.Prelude.{◌≡◌, true, IsTrue}
use Rattle.std.specs.List.{AllByRecursion}
use Rattle.dn_name.specs.Name.{IsName, Labels}
use Rattle.dn_rdata.specs.Layout.{IsData}
use Rattle.dn_stamp.specs.declared.stamp.Stamp.{Stamp}
use Rattle.dn_stamp.specs.Stamp.{IsVersion}
use Rattle.dn_store.specs.declared.unit.Unit as units
use Rattle.dn_store.specs.declared.unit.UnitKey.{UnitKey}
use Rattle.dn_store.specs.declared.unit.UnitKey.TheVariants as keys
use Rattle.dn_store.specs.declared.unit.UnitValue.{UnitValue}
use Rattle.dn_store.specs.declared.unit.UnitValue.TheVariants.{Props, Live, Tombstone, Gone}
use Rattle.dn_store.specs.declared.unit.Write.{Write}
use Rattle.dn_store.specs.Table.{IsTable, TableState}
use Rattle.dn_store.specs.Value.{fits, unit_ok}

-- a node's key is a name
abbrev pub IsNamedKey : UnitKey → Type 0
IsNamedKey keys.Props = Unit {0}
IsNamedKey (keys.Node name) = IsName name

-- the data of each record of a live node are valid for its type
abbrev pub HasData : UnitValue → Type 0
HasData (Props list) = Unit {0}
HasData (Live rows) = AllByRecursion (λ row. IsData row.rtype row.rdata) rows
HasData (Tombstone ticks) = Unit {0}
HasData Gone = Unit {0}

-- A node's key is a name, the value may stand under the key in the zone with this apex, the data of its records are valid for
-- their types, it fits, and the stamp's version is one that is given.
pub record IsValid (apex : Labels) (key : UnitKey) (stamp : Stamp) (value : UnitValue) : Type 0 where
  pub named : IsNamedKey key
  pub allowed : unit_ok apex key value ≡ true
  pub records : HasData value
  pub fitting : IsTrue (fits value)
  pub version : IsVersion stamp.version

abbrev pub IsValidUnit : Labels → units.Unit → Type 0
IsValidUnit apex unit = IsValid apex unit.key unit.stamp unit.value

abbrev pub IsValidWrite : Labels → Write → Type 0
IsValidWrite apex write = IsValid apex write.key write.stamp write.value

-- A valid table for an apex: it is a table, and each of its units is valid.
abbrev pub IsValidTable : Labels → TableState → Type 0
IsValidTable apex table = IsTable table.0 table.1 × AllByRecursion (IsValidUnit apex) table.0
