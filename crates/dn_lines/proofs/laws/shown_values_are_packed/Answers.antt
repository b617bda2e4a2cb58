use Rattle.dn_lines.proofs.ValuesBack.{shown_packed}
use Rattle.dn_lines.proofs.laws.shown_values_are_packed.Goals as goal

pub returns : goal.returns
returns c = shown_packed c.values_are_one.ensures
