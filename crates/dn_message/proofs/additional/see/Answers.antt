use Rattle.std.proofs.Common.{sym, ◌∙◌}
use Rattle.dn_message.proofs.AdditionalLemmas.{no_row, passed_one, passed_second}
use Rattle.dn_message.proofs.additional.see.Goals as goal

pub returns-in-Some-clause-sees : goal.returns-in-Some-clause-sees
returns-in-Some-clause-sees c =
    passed_one c.args.bytes.now c.args.at c.in-Ok.head c.in-Ok.next c.in-Ok.ensures.passes c.args.seen c.in-Some.seen (sym c.saw.ensures ∙ c.in-Some.is)

pub returns-in-None-clause-sees : goal.returns-in-None-clause-sees
returns-in-None-clause-sees c =
    passed_second c.args.bytes.now c.args.at c.in-Ok.head c.in-Ok.next c.in-Ok.ensures.passes c.args.seen (sym c.saw.ensures ∙ c.in-None.is)

pub returns-in-Err-clause-sees : goal.returns-in-Err-clause-sees
returns-in-Err-clause-sees c = no_row c.args.bytes.now c.args.at c.args.seen c.in-Err.ensures.passes
