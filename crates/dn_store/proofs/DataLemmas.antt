-- Records whose data are valid for their types: those of a value that has such, and all of a zone whose units are valid.
use Rattle.std.proofs.Common.{◌≡◌, ℕ, List, [], ◌∷◌, Option, None, Some, refl}
use Rattle.std.specs.List.{AllByRecursion}
use Rattle.dn_name.specs.Name.{Labels}
use Rattle.dn_rdata.specs.declared.record.Record.{Record}
use Rattle.dn_rdata.specs.Layout.{IsData}
use Rattle.dn_store.specs.declared.unit.Unit as units
use Rattle.dn_store.specs.declared.unit.UnitKey.{UnitKey}
use Rattle.dn_store.specs.declared.unit.UnitValue.{UnitValue}
use Rattle.dn_store.specs.declared.unit.UnitValue.TheVariants.{Props, Live, Tombstone, Gone}
use Rattle.dn_store.specs.Contents.{node_value, rows_at, rows_in, rows_of_unit}
use Rattle.dn_store.specs.Table.{unit_at}
use Rattle.dn_store.specs.Valid.{HasData, IsValidUnit}
use Rattle.dn_store.proofs.ListLemmas.{all_then}
use Rattle.dn_store.proofs.ValidLemmas.{valid_at}

-- the record's data are valid for its type
abbrev pub HasOwnData : Record → Type 0
HasOwnData row = IsData row.rtype row.rdata

-- the records of a value
pub rows_have : (value : UnitValue) → HasData value → AllByRecursion HasOwnData (rows_in value)
rows_have (Props list) has = tt
rows_have (Live rows) has = has
rows_have (Tombstone ticks) has = tt
rows_have Gone has = tt

-- and the value of records
pub node_has : (rows : List Record) (ticks : ℕ) → AllByRecursion HasOwnData rows → HasData (node_value rows ticks)
node_has [] ticks have = tt
node_has (row ∷ rows) ticks have = have

found_have : (apex : Labels) (key : UnitKey) (list : List units.Unit) (found : Option units.Unit) → AllByRecursion (IsValidUnit apex) list → unit_at key list ≡ found
    → AllByRecursion HasOwnData (rows_of_unit found)
found_have apex key list None valid is = tt
found_have apex key list (Some unit) valid is = rows_have unit.value (valid_at apex key list unit valid is).records

-- the records at a key
pub rows_at_have : (apex : Labels) (key : UnitKey) (list : List units.Unit) → AllByRecursion (IsValidUnit apex) list → AllByRecursion HasOwnData (rows_at key list)
unfolding rows_at
rows_at_have apex key list valid = found_have apex key list (unit_at key list) valid refl

-- the records of each unit
pub units_have : (apex : Labels) (list : List units.Unit) → AllByRecursion (IsValidUnit apex) list → AllByRecursion (λ unit. AllByRecursion HasOwnData (rows_in unit.value)) list
units_have apex list valid =
    all_then (IsValidUnit apex) (λ unit. AllByRecursion HasOwnData (rows_in unit.value)) list (λ unit is. rows_have unit.value is.records) valid
