use Rattle.dn_rdata.proofs.FoldedLemmas.{names_folded, others_folded}
use Rattle.dn_rdata.proofs.laws.names_in_data_are_folded.Goals as goal

pub returns-clause-names : goal.returns-clause-names
returns-clause-names c = names_folded

pub returns-clause-others : goal.returns-clause-others
returns-clause-others c = others_folded
