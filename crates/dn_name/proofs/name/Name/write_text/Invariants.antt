use Rattle.std.proofs.Common.{length}
use Rattle.dn_name.specs.Writing.{IsWritten}
use Rattle.dn_name.proofs.name.Name.write_text.Given as goal

abbrev pub invariant-loop-label : goal.invariant-loop-label
invariant-loop-label l = IsWritten l.self l.wire l.at l.fn.out l.out

abbrev pub decreases-loop-label : goal.decreases-loop-label
decreases-loop-label l = length l.wire
