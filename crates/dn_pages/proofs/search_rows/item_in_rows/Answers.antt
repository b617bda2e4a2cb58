use Rattle.std.proofs.Common.{◌∙◌, []}
use Rattle.std.proofs.lemmas.List.{get_or_read}
use Rattle.dn_pages.proofs.RowSearchLemmas.{item_found, none_found, spot_settled}
use Rattle.dn_pages.proofs.search_rows.item_in_rows.Goals as goal

pub item_in-requires : goal.item_in-requires
item_in-requires g c =
    spot_settled c.args.rows.now c.args.place c.as_slice.result.now c.spot.result c.if-place-rows.false c.requires
    (c.as_slice.ensures ∙ get_or_read c.args.rows.now c.args.place.row c.index-rows-place.result c.if-place-rows.false c.index-rows-place.is []) c.spot.ensures

pub returns-then-place-rows : goal.returns-then-place-rows
returns-then-place-rows g c = none_found c.args.rows.now c.args.place c.if-place-rows.true

pub returns : goal.returns
returns g c =
    c.item_in.ensures
    ∙ item_found c.args.rows.now c.args.place c.as_slice.result.now c.spot.result c.if-place-rows.false c.requires
    (c.as_slice.ensures ∙ get_or_read c.args.rows.now c.args.place.row c.index-rows-place.result c.if-place-rows.false c.index-rows-place.is []) c.spot.ensures
