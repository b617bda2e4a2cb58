use Rattle.std.proofs.Common.{refl}
use Rattle.dn_rdata.specs.Layout.{parts_of}
use Rattle.dn_rdata.proofs.LaidLemmas.{parts_once}
use Rattle.dn_rdata.proofs.laws.data_are_laid_once.Goals as goal

pub returns : goal.returns
returns c = λ message at end rtype rdata other laid also.
    parts_once message c.names_are_spelled_once.ensures (parts_of rtype) at at end rdata other refl laid also
