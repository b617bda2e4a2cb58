use Rattle.dn_property.proofs.RangeLemmas.{in_range}
use Rattle.dn_property.proofs.laws.properties_are_in_range.Goals as goal

pub returns : goal.returns
returns c = in_range
