use Rattle.std.proofs.Common.{◌∙◌, sym}
use Rattle.dn_rdata.proofs.FoldedLemmas.{folded_in, folded_out}
use Rattle.dn_rdata.proofs.order.folded_byte.Goals as goal

pub returns-then-is_in_names : goal.returns-then-is_in_names
returns-then-is_in_names c =
    c.lower_byte.ensures ∙ sym (folded_in c.args.rtype c.args.rdata.now c.args.at c.requires (sym c.is_in_names.ensures ∙ c.if-is_in_names.true))

pub returns-else-is_in_names : goal.returns-else-is_in_names
returns-else-is_in_names c =
    sym (folded_out c.args.rtype c.args.rdata.now c.args.at c.requires (sym c.is_in_names.ensures ∙ c.if-is_in_names.false))
