use Rattle.std.proofs.Common.{rules, ap, sym, ◌∙◌}
use Rattle.std.specs.Prelude.{option_copied}
use Rattle.dn_text.proofs.TableLemmas.{has_name, has_no_name}
use Rattle.dn_text.proofs.property_table.push_id.Goals as goal

pub returns-in-Some : goal.returns-in-Some
returns-in-Some c =
    let name = has_name c.known_properties.result.now c.args.id c.in-Some.named.now c.known_properties.ensures (ap option_copied (sym c.in-Some.is) ∙ c.with_id.ensures) in search (rules, name)

pub returns-in-None : goal.returns-in-None
returns-in-None c =
    let none = has_no_name c.known_properties.result.now c.args.id c.known_properties.ensures (ap option_copied (sym c.in-None.is) ∙ c.with_id.ensures) in search (rules, none)
