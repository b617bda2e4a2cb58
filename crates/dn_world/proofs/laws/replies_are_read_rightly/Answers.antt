use Rattle.dn_world.proofs.ViewLemmas.{read_rightly}
use Rattle.dn_world.proofs.laws.replies_are_read_rightly.Goals as goal

pub returns : goal.returns
returns c = read_rightly c.answers_are_sendable.ensures
