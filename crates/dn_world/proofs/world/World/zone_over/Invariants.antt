use Rattle.std.proofs.Common.{◌≡◌, ◌≤◌, drop, length}
use Rattle.dn_world.proofs.ViewLemmas.{over}
use Rattle.dn_world.proofs.world.World.zone_over.Given as goal

abbrev pub invariant-loop-at : goal.invariant-loop-at
invariant-loop-at l = record {
  found : l.nearest ≡ over l.id l.name (drop l.at l.zones);
  within : l.at ≤ length l.zones;
}

abbrev pub decreases-loop-at : goal.decreases-loop-at
decreases-loop-at l = l.at
