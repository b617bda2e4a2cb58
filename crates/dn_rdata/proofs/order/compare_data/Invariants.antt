use Rattle.std.proofs.Common.{◌≡◌, drop}
use Rattle.dn_rdata.specs.Record.{bytes_cmp, folded}
use Rattle.dn_rdata.proofs.order.compare_data.Given as goal

abbrev pub invariant-loop-at : goal.invariant-loop-at
invariant-loop-at l = bytes_cmp (drop l.at (folded l.left_type l.left)) (drop l.at (folded l.right_type l.right)) ≡ bytes_cmp (folded l.left_type l.left) (folded l.right_type l.right)
