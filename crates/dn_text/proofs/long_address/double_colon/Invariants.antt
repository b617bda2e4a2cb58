use Rattle.std.proofs.Common.{◌≡◌, false, drop}
use Rattle.dn_text.specs.LongAddresses.{double_from}
use Rattle.dn_text.proofs.long_address.double_colon.Given as goal

abbrev pub invariant-loop-at : goal.invariant-loop-at
invariant-loop-at l = double_from l.at l.colon (drop l.at l.word) ≡ double_from 0 false l.word
