use Rattle.std.proofs.Common.{◌∙◌}
use Rattle.dn_pages.specs.Pages.{items, rank}
use Rattle.dn_store.proofs.PlaceLemmas.{above_at}
use Rattle.dn_store.proofs.finding.find_past.Goals as goal

pub returns : goal.returns
returns c =
    c.unit_of.ensures ∙ c.item_at.ensures
    ∙ above_at c.args.key.now (items c.args.units.now) (rank c.args.units.now c.place_of-place.result) c.requires c.place_of-place.ensures.cut
