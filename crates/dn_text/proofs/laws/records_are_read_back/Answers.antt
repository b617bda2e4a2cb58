use Rattle.dn_text.proofs.RecordsBack.{records_back}
use Rattle.dn_text.proofs.laws.records_are_read_back.Goals as goal

pub returns : goal.returns
returns c = records_back
