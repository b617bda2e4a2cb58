use Rattle.dn_name.proofs.SpelledLemmas.{falls}
use Rattle.dn_name.proofs.laws.pointers_fall.Goals as goal

pub returns : goal.returns
returns c = λ message at next labels segment. falls message segment
