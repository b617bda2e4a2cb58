use Rattle.dn_message.proofs.QueryOfLemmas.{the_one}
use Rattle.dn_message.proofs.decided.the_query_is_one.Goals as goal

pub returns : goal.returns
returns c = the_one
