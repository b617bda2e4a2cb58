use Rattle.std.proofs.Common.{◌∙◌, ap, sym}
use Rattle.std.specs.Prelude.{option_copied}
use Rattle.dn_pages.specs.Pages.{items}
use Rattle.dn_store.specs.Table.{unit_above}
use Rattle.dn_store.proofs.AboveLemmas.{above_none}
use Rattle.dn_store.proofs.finding.find_above.Goals as goal

pub returns-in-None : goal.returns-in-None
returns-in-None c =
    c.unit_of.ensures ∙ c.first.ensures ∙ sym (above_none (items c.args.units.now))
    ∙ ap (λ key. unit_above key (items c.args.units.now)) (sym (ap option_copied c.in-None.is))
