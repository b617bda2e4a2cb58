use Rattle.std.proofs.Common.{arith, ◌∙◌}
use Rattle.dn_word.proofs.NumberLemmas.{passes}
use Rattle.dn_word.proofs.number.value_within.Goals as goal

pub returns-in_err-value : goal.returns-in_err-value
returns-in_err-value c =
    c.from_residual.ensures
    ∙ passes c.args.most c.loop-digit.value c.loop-digit.digit-index c.args.digits.now (omega arith) (omega arith) c.in_err-value.ensures c.loop-digit.invariant
