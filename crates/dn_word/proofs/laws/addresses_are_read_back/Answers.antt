use Rattle.dn_word.proofs.AddressesBack.{address_read_back}
use Rattle.dn_word.proofs.laws.addresses_are_read_back.Goals as goal

pub returns : goal.returns
returns c = address_read_back
