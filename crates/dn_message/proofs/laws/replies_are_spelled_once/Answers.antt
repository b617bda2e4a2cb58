use Rattle.dn_message.proofs.OnceLemmas.{reply_once}
use Rattle.dn_message.proofs.laws.replies_are_spelled_once.Goals as goal

pub returns : goal.returns
returns c = reply_once c.names_are_spelled_once.ensures
