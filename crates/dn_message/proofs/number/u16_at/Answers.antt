use Rattle.std.proofs.Common.{sym, ◌∙◌}
use Rattle.dn_message.proofs.FieldLemmas.{number_found}
use Rattle.dn_message.proofs.number.u16_at.Goals as goal

pub returns-in-Some-clause-exact : goal.returns-in-Some-clause-exact
returns-in-Some-clause-exact c =
    number_found c.args.bytes.now c.args.at c.in-Some.number _ (sym c.split_at.ensures.back ∙ c.in-Some.ensures.found)
