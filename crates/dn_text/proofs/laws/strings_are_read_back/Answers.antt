use Rattle.dn_text.proofs.StringsBack.{strings_back}
use Rattle.dn_text.proofs.laws.strings_are_read_back.Goals as goal

pub returns : goal.returns
returns c = strings_back
