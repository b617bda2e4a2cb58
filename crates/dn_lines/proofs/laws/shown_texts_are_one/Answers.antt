use Rattle.dn_lines.specs.Values.{IsShown}
use Rattle.dn_lines.proofs.OnceLemmas.{shown_once, texts_once}
use Rattle.dn_lines.proofs.laws.shown_texts_are_one.Goals as goal

pub returns : goal.returns
returns c = texts_once IsShown (shown_once c.values_are_one.ensures)
