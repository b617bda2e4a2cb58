use Rattle.std.proofs.Common.{length}
use Rattle.dn_rdata.proofs.check.+are_fixed.Given as goal

abbrev pub decreases-are_fixed : goal.decreases-are_fixed
decreases-are_fixed l = length l.parts.now
