use Rattle.std.proofs.Common.{◌≡◌, true, refl, rules}
use Rattle.dn_rdata.specs.Views.{is_strings}
use Rattle.dn_rdata.proofs.ViewLemmas.{are_texts}
use Rattle.dn_rdata.proofs.views.view_of.Goals as goal

pub returns-in-13 : goal.returns-in-13
returns-in-13 c =
    let strings : is_strings c.args.rtype ≡ true = search rules in
    (strings, refl, are_texts c.args.rtype c.args.rdata.now strings c.requires)
