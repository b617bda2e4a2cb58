-- The state of a zone on one replica, whatever keeps it.
use Rattle.std.specs.Prelude.{ℕ, List, Option}
use Rattle.dn_name.specs.Name.{Labels}
use Rattle.dn_stamp.specs.declared.stamp.ReplicaId.{ReplicaId}
use Rattle.dn_store.specs.Table.{TableState}
use Rattle.dn_pass.specs.declared.pass.Pass.{Pass}

-- The replica's identity and its own name, the zone's apex in lower case, its units with the change count, up to which number of each
-- supplier's changes it has taken them, and the pass that runs.
pub record ZoneState : Type 0 where
  pub id : ReplicaId
  pub host : Labels
  pub apex : Labels
  pub table : TableState
  pub cursors : List (ReplicaId × ℕ)
  pub pass : Option Pass
