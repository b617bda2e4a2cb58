use Rattle.dn_property.proofs.OnceLemmas.{property_once}
use Rattle.dn_property.proofs.laws.properties_are_spelled_once.Goals as goal

pub returns : goal.returns
returns c = property_once
