use Rattle.dn_text.proofs.DataBack.{data_read_back}
use Rattle.dn_text.proofs.laws.data_are_read_back.Goals as goal

pub returns : goal.returns
returns c = data_read_back
