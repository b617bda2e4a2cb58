use Rattle.dn_word.proofs.NumbersBack.{number_read_back}
use Rattle.dn_word.proofs.laws.numbers_are_read_back.Goals as goal

pub returns : goal.returns
returns c = number_read_back
