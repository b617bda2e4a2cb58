use Rattle.std.proofs.Common.{◌∙◌, ◌<◌, [], arith, length}
use Rattle.std.proofs.lemmas.List.{get_or_read}
use Rattle.dn_pages.proofs.RowSearchLemmas.{place_small}
use Rattle.dn_pages.proofs.RowsLemmas.{place_there, seen_sized}
use Rattle.dn_pages.proofs.search_rows.next_in_rows.Goals as goal

pub overflow_add-place : goal.overflow_add-place
overflow_add-place g c =
    let small : c.args.place.at < 64 = place_small c.args.rows.now c.args.place c.requires.sized c.requires.there in
    grind (arith, small)

pub settled-page-requires-clause-sized : goal.settled-page-requires-clause-sized
settled-page-requires-clause-sized g c =
    let within : c.args.place.row < length c.args.rows.now = place_there c.args.rows.now c.args.place c.requires.there in
    seen_sized c.args.rows.now c.args.place.row c.as_slice.result.now c.requires.sized
    (c.as_slice.ensures ∙ get_or_read c.args.rows.now c.args.place.row c.index-rows-row.result within c.index-rows-row.is [])
