use Rattle.std.proofs.Common.{◌≡◌, ◌++◌, length}
use Rattle.dn_text.specs.LongAddresses.{groups_behind}
use Rattle.dn_text.proofs.long_address.push_groups_behind.Given as goal

abbrev pub invariant-loop-rest : goal.invariant-loop-rest
invariant-loop-rest l = l.out ++ groups_behind l.rest ≡ l.initial.out ++ groups_behind l.bytes

abbrev pub decreases-loop-rest : goal.decreases-loop-rest
decreases-loop-rest l = length l.rest
