use Rattle.dn_world.proofs.WorldLemmas.{puts_same}
use Rattle.dn_world.proofs.world.put_prepared.Goals as goal

pub returns-in-Same : goal.returns-in-Same
returns-in-Same c = rw c.in-Same.is (puts_same c.args.zones.now c.args.place c.in-Same.answer)
