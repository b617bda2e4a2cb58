use Rattle.std.proofs.Common.{sym, ◌∙◌}
use Rattle.dn_message.proofs.FieldLemmas.{kind_found}
use Rattle.dn_message.proofs.question.read_type_and_class.Goals as goal

pub returns-in-Some-clause-exact : goal.returns-in-Some-clause-exact
returns-in-Some-clause-exact c =
    kind_found c.args.bytes.now c.args.at c.in-Some.found c.in-Some.ensures.found.0 (sym c.split_at.ensures.back ∙ c.in-Some.ensures.found.1)
