use Rattle.std.proofs.Common.{refl}
use Rattle.dn_rdata.specs.Layout.{parts_of}
use Rattle.dn_rdata.proofs.LaidLemmas.{parts_are, parts_lie}
use Rattle.dn_rdata.proofs.laws.valid_data_are_laid.Goals as goal

pub returns-clause-wire : goal.returns-clause-wire
returns-clause-wire c = λ message at rtype rdata rest is there. parts_lie message (parts_of rtype) at _ rdata rest is there refl

pub returns-clause-back : goal.returns-clause-back
returns-clause-back c = λ message at end rtype rdata laid. parts_are message (parts_of rtype) at end rdata laid
