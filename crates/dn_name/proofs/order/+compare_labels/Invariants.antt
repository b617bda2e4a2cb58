use Rattle.std.proofs.Common.{length}
use Rattle.dn_name.proofs.order.+compare_labels.Given as goal

abbrev pub decreases-compare_labels : goal.decreases-compare_labels
decreases-compare_labels l = length l.left.now
