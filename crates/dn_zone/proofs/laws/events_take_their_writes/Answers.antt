use Rattle.dn_zone.proofs.WritesLemmas.{takes_its_writes}
use Rattle.dn_zone.proofs.laws.events_take_their_writes.Goals as goal

pub returns : goal.returns
returns c = takes_its_writes
