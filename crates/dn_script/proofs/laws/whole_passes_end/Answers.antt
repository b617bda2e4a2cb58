use Rattle.dn_script.proofs.WholePassLemmas.{passes_whole, whole_passes}
use Rattle.dn_script.proofs.laws.whole_passes_end.Goals as goal

pub returns-clause-whole : goal.returns-clause-whole
returns-clause-whole c = passes_whole

pub returns-clause-last : goal.returns-clause-last
returns-clause-last c = whole_passes
