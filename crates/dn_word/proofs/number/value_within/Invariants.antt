use Rattle.std.proofs.Common.{◌≡◌, drop}
use Rattle.dn_word.specs.Numbers.{value_behind}
use Rattle.dn_word.proofs.number.value_within.Given as goal

abbrev pub invariant-loop-digit : goal.invariant-loop-digit
invariant-loop-digit l = value_behind l.value (drop l.digit-index l.digits) ≡ value_behind 0 l.digits
