use Rattle.std.proofs.Common.{◌≤◌, ◌+◌, ◌*◌, take}
use Rattle.dn_name.specs.Text.{label_text}
use Rattle.dn_name.specs.Writing.{Prints}
use Rattle.dn_name.proofs.text.write_label.Given as goal

abbrev pub invariant-loop-byte : goal.invariant-loop-byte
invariant-loop-byte l = (l.at ≤ l.start + 4 * l.byte-index) × Prints l.start l.fn.out (label_text (take l.byte-index l.label)) l.at l.out
