use Rattle.dn_lines.proofs.ShowLemmas.{property_is_shown}
use Rattle.dn_lines.proofs.showing.property_shown.Goals as goal

pub returns-in-Ok : goal.returns-in-Ok
returns-in-Ok c = property_is_shown c.args.bytes.now c.in-Ok.item c.property_line.result c.in-Ok.ensures.exact.0 c.property_line.ensures
