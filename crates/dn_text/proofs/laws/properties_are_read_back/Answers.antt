use Rattle.dn_text.proofs.PropertiesBack.{properties_back}
use Rattle.dn_text.proofs.laws.properties_are_read_back.Goals as goal

pub returns : goal.returns
returns c = properties_back
