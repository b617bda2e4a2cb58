-- The state of a world, whatever keeps it.
use Rattle.std.specs.Prelude.{List}
use Rattle.dn_zone.specs.State.{ZoneState}
use Rattle.dn_world.specs.declared.world.Post.{Post}
use Rattle.dn_world.specs.declared.world.Replica.{Replica}

-- The replicas in the order in which they came, all of their zones, and the packets that were sent, in order.
pub record WorldState : Type 0 where
  pub replicas : List Replica
  pub zones : List ZoneState
  pub packets : List Post
