-- What a body tells of values that are to be written: their writes, or the limit that they pass.
use Rattle.std.specs.Prelude.{◌≡◌, ◌<◌, ℕ, List, [], length}
use Rattle.dn_stamp.specs.declared.stamp.ReplicaId.{ReplicaId}
use Rattle.dn_store.specs.declared.unit.Write.{Write}
use Rattle.dn_store.specs.Table.{TableState}
use Rattle.dn_update.specs.declared.plan.Plan.{Plan}
use Rattle.dn_update.specs.declared.plan.Plan.TheVariants as plans
use Rattle.dn_update.specs.Writes.{Passed, Took, Wanted, with_writes, written}

abbrev pub Plans : Plan → List Wanted → ReplicaId → ℕ → TableState → Type 0
Plans (plans.Limit limit) wanted id ticks table = written wanted id ticks table ≡ (table, Passed limit)
Plans (plans.Writes writes) wanted id ticks table =
    (written wanted id ticks table ≡ (with_writes writes table, Took (length writes))) × (0 < length writes)

abbrev pub writes_of : Plan → List Write
writes_of (plans.Limit limit) = []
writes_of (plans.Writes writes) = writes
