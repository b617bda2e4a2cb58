use Rattle.dn_text.proofs.DigitsBack.{digits_back}
use Rattle.dn_text.proofs.laws.digits_are_read_back.Goals as goal

pub returns : goal.returns
returns c = digits_back
