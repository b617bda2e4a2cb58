use Rattle.std.proofs.Common.{sym, ◌∙◌}
use Rattle.dn_rdata.proofs.OneViewLemmas.{view_is}
use Rattle.dn_rdata.proofs.laws.views_are_one.Goals as goal

pub returns : goal.returns
returns c = λ row left right first second.
    view_is row.rtype row.rdata left first ∙ sym (view_is row.rtype row.rdata right second)
