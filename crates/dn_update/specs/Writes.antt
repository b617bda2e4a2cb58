-- Values that are to be written to a zone, and the writes that they come to within its limits.
pub mod Plans
use Rattle.std.specs.Prelude.{ℕ, ◌+◌, nat_lt, if◌then◌else◌, List, [], ◌∷◌, length, Option, None, Some}
use Rattle.std.specs.List.{list_all}
use Rattle.dn_io.specs.Moments.{seconds_of}
use Rattle.dn_io.specs.Options.{◌>>=◌}
use Rattle.dn_stamp.specs.declared.stamp.ReplicaId.{ReplicaId}
use Rattle.dn_stamp.specs.declared.stamp.Stamp.{Stamp}
use Rattle.dn_stamp.specs.Stamp.{first_stamp, next_stamp}
use Rattle.dn_rdata.specs.declared.record.Record.{Record}
use Rattle.dn_store.specs.declared.unit.Unit as units
use Rattle.dn_store.specs.declared.unit.UnitKey.{UnitKey}
use Rattle.dn_store.specs.declared.unit.UnitValue.{UnitValue}
use Rattle.dn_store.specs.declared.unit.Write.{Write}
use Rattle.dn_store.specs.Contents.{node_value}
use Rattle.dn_store.specs.Table.{TableState, change_limit, units_after, unit_at}
use Rattle.dn_store.specs.Value.{fits}
use Rattle.dn_update.specs.declared.plan.Limit.{Limit}
use Rattle.dn_update.specs.declared.plan.Limit.TheVariants.{NodeSize, Version}
use Rattle.dn_update.specs.declared.plan.Limit.TheVariants as limits
use Rattle.dn_update.specs.Node.{is_same_set}

-- a value that is to be written under a key
pub record Wanted : Type 0 where
  pub key : UnitKey
  pub value : UnitValue

abbrev pub stamp_behind : Option units.Unit → ReplicaId → ℕ → Option Stamp
stamp_behind None id seconds = Some (first_stamp id seconds)
stamp_behind (Some unit) id seconds = next_stamp unit.stamp id seconds

-- the stamp of the next write under a key; none where the unit is at its last version
unfoldable pub stamp_for : UnitKey → List units.Unit → ReplicaId → ℕ → Option Stamp
stamp_for key list id seconds = stamp_behind (unit_at key list) id seconds

abbrev pub write_under : Wanted → Stamp → Write
write_under wanted stamp = record { key = wanted.key; stamp = stamp; value = wanted.value }

-- the writes with their stamps; none where a unit is at its last version
unfoldable pub stamped : List units.Unit → ReplicaId → ℕ → List Wanted → Option (List Write)
stamped list id seconds [] = Some []
stamped list id seconds (wanted ∷ rest) = do
  stamp ← stamp_for wanted.key list id seconds
  writes ← stamped list id seconds rest
  Some (write_under wanted stamp ∷ writes)

-- how many units were written, or the limit that was passed
pub data Outcome : Type 0 where
  Took : ℕ → Outcome
  Passed : Limit → Outcome

-- the units and the change count after writes
abbrev pub with_writes : List Write → TableState → TableState
with_writes writes table = (units_after table.0 table.1 writes, table.1 + length writes)

abbrev pub when_stamped : TableState → Option (List Write) → TableState × Outcome
when_stamped table None = (table, Passed Version)
when_stamped table (Some []) = (table, Took 0)
when_stamped table (Some (first ∷ rest)) =
    let writes = first ∷ rest in
    if nat_lt change_limit (table.1 + length writes) then (table, Passed limits.Changes) else (with_writes writes table, Took (length writes))

-- The table after values are written at a moment by a replica. It stays as it is where a limit is passed, the first of
-- these: a value doesn't fit, a unit is at its last version, the change count would pass 2^63.
unfoldable pub written : List Wanted → ReplicaId → ℕ → TableState → TableState × Outcome
written wanted id ticks table =
    if list_all (λ one. fits one.value) wanted then when_stamped table (stamped table.0 id (seconds_of ticks) wanted)
    else (table, Passed NodeSize)

-- what has to be written where the records of a node become others: nothing where they are the same set
unfoldable pub node_change : UnitKey → List Record → List Record → ℕ → List Wanted
node_change key before after ticks =
    if is_same_set before after then [] else record { key = key; value = node_value after ticks } ∷ []
