use Rattle.std.proofs.Common.{ap, sym, ◌∙◌}
use Rattle.std.specs.Prelude.{option_copied}
use Rattle.dn_text.proofs.TableLemmas.{has_form, has_no_form}
use Rattle.dn_text.proofs.table.form_of.Goals as goal

pub returns-in-Some : goal.returns-in-Some
returns-in-Some c = sym (has_form c.known_types.result.now c.args.rtype c.in-Some.known.now c.known_types.ensures (ap option_copied (sym c.in-Some.is) ∙ c.with_number.ensures))

pub returns-in-None : goal.returns-in-None
returns-in-None c =
    c.form_without_name.ensures ∙ sym (has_no_form c.known_types.result.now c.args.rtype c.known_types.ensures (ap option_copied (sym c.in-None.is) ∙ c.with_number.ensures))
