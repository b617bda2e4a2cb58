use Rattle.dn_name.proofs.SpelledLemmas.{plain_found_spelled, plain_spelled}
use Rattle.dn_name.proofs.laws.plain_names_are_spelled.Goals as goal

pub returns-clause-wire : goal.returns-clause-wire
returns-clause-wire c = plain_spelled

pub returns-clause-plain : goal.returns-clause-plain
returns-clause-plain c = plain_found_spelled
