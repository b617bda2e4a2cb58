use Rattle.std.proofs.Common.{◌≡◌, ◌≤◌, length, take}
use Rattle.dn_name.specs.Reading.{IsPart}
use Rattle.dn_name.proofs.text.read_bytes.Given as goal

abbrev pub invariant-loop-byte : goal.invariant-loop-byte
invariant-loop-byte l = (l.label.len ≤ 63) × (length l.label.bytes ≡ 63) × IsPart l.text (take l.label.len l.label.bytes) l.rest

abbrev pub decreases-loop-byte : goal.decreases-loop-byte
decreases-loop-byte l = length l.rest
