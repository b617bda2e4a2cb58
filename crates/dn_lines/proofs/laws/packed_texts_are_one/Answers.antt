use Rattle.dn_lines.specs.Values.{IsPacked}
use Rattle.dn_lines.proofs.OnceLemmas.{packed_once, texts_once}
use Rattle.dn_lines.proofs.laws.packed_texts_are_one.Goals as goal

pub returns : goal.returns
returns c = texts_once IsPacked (packed_once c.values_are_one.ensures)
