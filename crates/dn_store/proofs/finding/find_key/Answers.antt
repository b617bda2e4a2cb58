use Rattle.std.proofs.Common.{◌∙◌, ap}
use Rattle.dn_pages.specs.Pages.{items, rank}
use Rattle.dn_store.specs.Places.{picked}
use Rattle.dn_store.proofs.PlaceLemmas.{found_at}
use Rattle.dn_store.proofs.finding.find_key.Goals as goal

pub returns : goal.returns
returns c =
    c.unit_with.ensures ∙ ap (picked c.args.key.now) c.item_at.ensures
    ∙ found_at c.args.key.now (items c.args.units.now) (rank c.args.units.now c.place_of-place.result) c.requires c.place_of-place.ensures.cut
