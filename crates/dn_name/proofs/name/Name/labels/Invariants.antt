use Rattle.std.proofs.Common.{◌≡◌, ◌≤◌, length, drop}
use Rattle.dn_name.specs.Name.{wire_of}
use Rattle.dn_name.proofs.name.Name.labels.Given as goal

abbrev pub invariant-loop-rest : goal.invariant-loop-rest
invariant-loop-rest l = record { rest : l.wire ≡ wire_of (drop l.count l.self); few : l.count ≤ length l.self }

abbrev pub decreases-loop-rest : goal.decreases-loop-rest
decreases-loop-rest l = length l.wire
