use Rattle.std.proofs.Common.{◌≡◌, [], drop}
use Rattle.dn_text.specs.Strings.{strings_from}
use Rattle.dn_text.specs.declared.quoted.Place.TheVariants.{Start}
use Rattle.dn_text.proofs.quoted.strings_of.Given as goal

abbrev pub invariant-loop-byte : goal.invariant-loop-byte
invariant-loop-byte l = strings_from l.place l.done l.begun (drop l.byte-index l.text) ≡ strings_from Start [] [] l.text
