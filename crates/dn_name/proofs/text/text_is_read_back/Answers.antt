use Rattle.dn_name.proofs.ReadBack.{read_back}
use Rattle.dn_name.proofs.text.text_is_read_back.Goals as goal

pub returns : goal.returns
returns c = read_back
