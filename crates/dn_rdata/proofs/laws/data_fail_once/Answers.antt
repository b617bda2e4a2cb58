use Rattle.dn_rdata.proofs.FaultLemmas.{data_once}
use Rattle.dn_rdata.proofs.laws.data_fail_once.Goals as goal

pub returns : goal.returns
returns c = data_once c.plain_faults_are_one.ensures.one c.plain_faults_are_one.ensures.none
