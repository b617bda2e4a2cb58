use Rattle.std.proofs.Common.{refl}
use Rattle.dn_name.proofs.SpelledLemmas.{once}
use Rattle.dn_name.proofs.laws.names_are_spelled_once.Goals as goal

pub returns : goal.returns
returns c = λ message at next after name other left right. once message refl left.1 right.1
