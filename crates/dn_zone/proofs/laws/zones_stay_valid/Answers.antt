use Rattle.dn_zone.proofs.ValidCreation.{created_valid, joined_valid}
use Rattle.dn_zone.proofs.ValidEvents.{changes_valid, event_valid}
use Rattle.dn_zone.proofs.laws.zones_stay_valid.Goals as goal

pub returns-clause-created : goal.returns-clause-created
returns-clause-created c = created_valid

pub returns-clause-joined : goal.returns-clause-joined
returns-clause-joined c = joined_valid

pub returns-clause-events : goal.returns-clause-events
returns-clause-events c = event_valid

pub returns-clause-changes : goal.returns-clause-changes
returns-clause-changes c = changes_valid
