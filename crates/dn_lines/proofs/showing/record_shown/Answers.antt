use Rattle.dn_lines.proofs.ShowLemmas.{record_is_shown}
use Rattle.dn_lines.proofs.showing.record_shown.Goals as goal

pub returns-in-Ok : goal.returns-in-Ok
returns-in-Ok c = record_is_shown c.args.bytes.now c.in-Ok.item c.record_line.result c.in-Ok.ensures.exact.0 c.record_line.ensures
