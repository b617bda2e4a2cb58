use Rattle.std.proofs.Common.{◌≡◌, filter, take}
use Rattle.dn_zone.specs.Merge.{wins}
use Rattle.dn_zone.proofs.zone.Zone.winners.Given as goal

abbrev pub invariant-loop-write : goal.invariant-loop-write
invariant-loop-write l = l.won ≡ filter (wins l.self.table.0) (take l.write-index l.writes)
