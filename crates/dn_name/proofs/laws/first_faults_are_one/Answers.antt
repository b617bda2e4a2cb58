use Rattle.std.proofs.Common.{refl}
use Rattle.dn_name.proofs.FirstFaultLemmas.{one}
use Rattle.dn_name.proofs.laws.first_faults_are_one.Goals as goal

pub returns : goal.returns
returns c = λ message at place other kind another left right. one message refl refl refl left right
