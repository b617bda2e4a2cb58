use Rattle.dn_lines.proofs.ValuesBack.{packed_shown}
use Rattle.dn_lines.proofs.laws.packed_values_are_shown.Goals as goal

pub returns : goal.returns
returns c = packed_shown
