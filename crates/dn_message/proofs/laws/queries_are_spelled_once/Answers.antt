use Rattle.dn_message.proofs.OnceLemmas.{query_once}
use Rattle.dn_message.proofs.laws.queries_are_spelled_once.Goals as goal

pub returns : goal.returns
returns c = query_once c.names_are_spelled_once.ensures
