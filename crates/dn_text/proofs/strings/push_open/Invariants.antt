use Rattle.std.proofs.Common.{◌≡◌, ◌++◌, drop}
use Rattle.dn_text.specs.Strings.{open_text}
use Rattle.dn_text.proofs.strings.push_open.Given as goal

abbrev pub invariant-loop-byte : goal.invariant-loop-byte
invariant-loop-byte l = l.out ++ open_text l.left (drop l.byte-index l.bytes) ≡ l.initial.out ++ open_text l.len l.bytes
