use Rattle.std.proofs.Common.{◌≡◌, drop}
use Rattle.std.specs.List.{AllByRecursion}
use Rattle.dn_name.specs.Name.{Labels, IsLabel, wire_of}
use Rattle.dn_name.proofs.wire.skip_labels.Given as goal

abbrev pub invariant-loop : goal.invariant-loop
invariant-loop l = (name : Labels) → AllByRecursion IsLabel name → l.wire ≡ wire_of name → l.rest ≡ wire_of (drop l.counter name)
