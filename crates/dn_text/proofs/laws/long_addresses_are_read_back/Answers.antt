use Rattle.dn_text.proofs.LongAddressesBack.{long_address_read_back}
use Rattle.dn_text.proofs.laws.long_addresses_are_read_back.Goals as goal

pub returns : goal.returns
returns c = long_address_read_back
