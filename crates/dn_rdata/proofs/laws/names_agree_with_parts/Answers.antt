use Rattle.dn_rdata.proofs.TableLemmas.{names_agree}
use Rattle.dn_rdata.proofs.laws.names_agree_with_parts.Goals as goal

pub returns : goal.returns
returns c = names_agree
