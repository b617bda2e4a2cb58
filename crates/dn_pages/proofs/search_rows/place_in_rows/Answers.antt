use Rattle.std.proofs.Common.{◌∙◌, []}
use Rattle.std.proofs.lemmas.List.{get_or_read}
use Rattle.dn_pages.proofs.RowSearchLemmas.{place_cut}
use Rattle.dn_pages.proofs.RowsLemmas.{seen_sized}
use Rattle.dn_pages.proofs.search_rows.place_in_rows.Goals as goal

pub spot_in-page-requires : goal.spot_in-page-requires
spot_in-page-requires g c =
    seen_sized c.args.rows.now c.home_of-row.result c.as_slice.result.now c.requires
    (c.as_slice.ensures ∙ get_or_read c.args.rows.now c.home_of-row.result c.index-rows-row.result c.home_of-row.ensures.within c.index-rows-row.is [])

pub returns-clause-cut : goal.returns-clause-cut
returns-clause-cut g c =
    place_cut (g.M.Mark.below c.args.mark.now) c.args.rows.now (record { row = c.home_of-row.result; page = c.spot_in-page.result.page; at = c.spot_in-page.result.at }) _ c.as_slice.result.now c.requires c.home_of-row.ensures
    (c.as_slice.ensures ∙ get_or_read c.args.rows.now c.home_of-row.result c.index-rows-row.result c.home_of-row.ensures.within c.index-rows-row.is []) c.spot_in-page.ensures.cut c.settled_in_rows.ensures.same
