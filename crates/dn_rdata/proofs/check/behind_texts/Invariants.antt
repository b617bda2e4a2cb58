use Rattle.std.proofs.Common.{length}
use Rattle.dn_rdata.proofs.TextsLemmas.{AreMore}
use Rattle.dn_rdata.proofs.check.behind_texts.Given as goal

abbrev pub invariant-loop-rest : goal.invariant-loop-rest
invariant-loop-rest l = AreMore l.bytes l.rest

abbrev pub decreases-loop-rest : goal.decreases-loop-rest
decreases-loop-rest l = length l.rest
