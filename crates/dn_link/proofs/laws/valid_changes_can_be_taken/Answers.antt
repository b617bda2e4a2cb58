use Rattle.dn_link.proofs.SentLemmas.{valid_taken}
use Rattle.dn_link.proofs.laws.valid_changes_can_be_taken.Goals as goal

pub returns : goal.returns
returns c = valid_taken
