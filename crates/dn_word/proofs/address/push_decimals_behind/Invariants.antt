use Rattle.std.proofs.Common.{◌≡◌, ◌++◌, drop}
use Rattle.dn_word.specs.Addresses.{decimals_behind}
use Rattle.dn_word.proofs.address.push_decimals_behind.Given as goal

abbrev pub invariant-loop-byte : goal.invariant-loop-byte
invariant-loop-byte l = l.out ++ decimals_behind l.separator (drop l.byte-index l.bytes) ≡ l.initial.out ++ decimals_behind l.separator l.bytes
