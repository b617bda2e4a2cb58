use Rattle.dn_world.proofs.AgingRuns.{runs_age_traces}
use Rattle.dn_world.proofs.EveryZone.{runs_age}
use Rattle.dn_world.proofs.laws.zones_age_rightly.Goals as goal

pub returns-clause-runs : goal.returns-clause-runs
returns-clause-runs c = runs_age_traces

pub returns-clause-zones : goal.returns-clause-zones
returns-clause-zones c = runs_age
