use Rattle.std.proofs.Common.{ap, sym, ◌∙◌}
use Rattle.std.specs.Option.{option_copied}
use Rattle.dn_pass.proofs.LastKeyLemmas.{last_key_of}
use Rattle.dn_pass.proofs.stepping.last_key.Goals as goal

pub returns-in-Some : goal.returns-in-Some
returns-in-Some c = last_key_of c.args.before c.args.looked.now c.in-Some.unit.now (sym c.last.ensures.value ∙ ap option_copied c.in-Some.is)
