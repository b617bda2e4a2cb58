use Rattle.dn_record.proofs.RangeLemmas.{in_range}
use Rattle.dn_record.proofs.laws.records_are_in_range.Goals as goal

pub returns : goal.returns
returns c = in_range
