use Rattle.dn_record.proofs.FaultLemmas.{fault_is_one}
use Rattle.dn_record.proofs.laws.first_faults_are_one.Goals as goal

pub returns : goal.returns
returns c = fault_is_one
