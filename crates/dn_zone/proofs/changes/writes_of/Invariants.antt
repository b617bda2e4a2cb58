use Rattle.std.proofs.Common.{◌≡◌, map, take}
use Rattle.dn_store.specs.Table.{write_of}
use Rattle.dn_zone.proofs.changes.writes_of.Given as goal

abbrev pub invariant-loop-unit : goal.invariant-loop-unit
invariant-loop-unit l = l.writes ≡ map write_of (take l.unit-index l.units)
