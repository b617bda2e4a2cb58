use Rattle.dn_world.proofs.ValidWorld.{run_valid}
use Rattle.dn_world.proofs.laws.worlds_stay_valid.Goals as goal

pub returns : goal.returns
returns c = run_valid
