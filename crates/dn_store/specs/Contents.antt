-- What stands under a key: the records of a node, the property list of a zone.
use Rattle.std.specs.Prelude.{ℕ, List, [], ◌∷◌, Option, None, Some}
use Rattle.dn_property.specs.declared.property.Property.{Property}
use Rattle.dn_rdata.specs.declared.record.Record.{Record}
use Rattle.dn_store.specs.declared.unit.Unit as units
use Rattle.dn_store.specs.declared.unit.UnitKey.{UnitKey}
use Rattle.dn_store.specs.declared.unit.UnitKey.TheVariants as keys
use Rattle.dn_store.specs.declared.unit.UnitValue.{UnitValue}
use Rattle.dn_store.specs.declared.unit.UnitValue.TheVariants.{Props, Live, Tombstone, Gone}
use Rattle.dn_store.specs.Table.{unit_at}

-- the records of a value, none where it isn't a node's with records
abbrev pub rows_in : UnitValue → List Record
rows_in (Props list) = []
rows_in (Live rows) = rows
rows_in (Tombstone ticks) = []
rows_in Gone = []

abbrev pub rows_of_unit : Option units.Unit → List Record
rows_of_unit None = []
rows_of_unit (Some unit) = rows_in unit.value

-- the records of the node at a key
unfoldable pub rows_at : UnitKey → List units.Unit → List Record
rows_at key list = rows_of_unit (unit_at key list)

-- a node with these records, entombed where there are none
abbrev pub node_value : List Record → ℕ → UnitValue
node_value [] ticks = Tombstone ticks
node_value (row ∷ rows) ticks = Live (row ∷ rows)

-- the properties of a value, none where it isn't a property list
abbrev pub properties_in : UnitValue → List Property
properties_in (Props list) = list
properties_in (Live rows) = []
properties_in (Tombstone ticks) = []
properties_in Gone = []

abbrev pub properties_of_unit : Option units.Unit → List Property
properties_of_unit None = []
properties_of_unit (Some unit) = properties_in unit.value

-- the zone's property list
unfoldable pub properties_of : List units.Unit → List Property
properties_of list = properties_of_unit (unit_at keys.Props list)

abbrev pub number_of_unit : Option units.Unit → ℕ
number_of_unit None = 0
number_of_unit (Some unit) = unit.usn

-- the change number of the zone's property list, 0 where it has none
unfoldable pub props_number : List units.Unit → ℕ
props_number list = number_of_unit (unit_at keys.Props list)
