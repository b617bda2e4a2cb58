use Rattle.std.proofs.Common.{length}
use Rattle.dn_name.proofs.order.+ends_with.Given as goal

abbrev pub decreases-ends_with : goal.decreases-ends_with
decreases-ends_with l = length l.wire.now
