use Rattle.std.proofs.Common.{rules, ap, sym, ◌∙◌}
use Rattle.std.specs.Prelude.{option_copied}
use Rattle.dn_text.proofs.TableLemmas.{type_has_name, type_has_no_name}
use Rattle.dn_text.proofs.types.push_type.Goals as goal

pub returns-in-Some : goal.returns-in-Some
returns-in-Some c =
    let name = type_has_name c.known_types.result.now c.args.rtype c.in-Some.known.now c.known_types.ensures (ap option_copied (sym c.in-Some.is) ∙ c.with_number.ensures) in
    search (rules, name)

pub returns-in-None : goal.returns-in-None
returns-in-None c =
    let none = type_has_no_name c.known_types.result.now c.args.rtype c.known_types.ensures (ap option_copied (sym c.in-None.is) ∙ c.with_number.ensures) in
    search (rules, none)
