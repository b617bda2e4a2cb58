use Rattle.std.proofs.Common.{◌<◌, [], length, refl}
use Rattle.std.proofs.lemmas.List.{get_or_read}
use Rattle.std.proofs.lemmas.Result.{on_ok_weaker}
use Rattle.dn_pages.proofs.RowsLemmas.{on_ok_two, place_there, row_put, rows_same, seen_sized}
use Rattle.dn_pages.proofs.rows.set_in_rows.Goals as goal

pub set_in_row-requires-clause-sized : goal.set_in_row-requires-clause-sized
set_in_row-requires-clause-sized g c =
    let within : c.args.place.row < length c.args.rows.now.items = place_there c.args.rows.now.items c.args.place c.requires.there in
    seen_sized c.args.rows.now.items c.args.place.row c.index_mut.result.now c.requires.sized
    (get_or_read c.args.rows.now.items c.args.place.row c.index_mut.result.now within c.index_mut.ensures.value [])

pub returns-clause-items : goal.returns-clause-items
returns-clause-items g c =
    let within : c.args.place.row < length c.args.rows.now.items = place_there c.args.rows.now.items c.args.place c.requires.there in
    on_ok_weaker c.set_in_row.result
    (λ made.
    row_put c.args.rows.now.items _ c.args.place c.index_mut.result.now c.set_in_row.new.row c.spot.result c.args.item within c.requires.there
    (get_or_read c.args.rows.now.items c.args.place.row c.index_mut.result.now within c.index_mut.ensures.value []) c.spot.ensures made refl)
    c.set_in_row.ensures.joined

pub returns-clause-sized : goal.returns-clause-sized
returns-clause-sized g c =
    let within : c.args.place.row < length c.args.rows.now.items = place_there c.args.rows.now.items c.args.place c.requires.there in
    on_ok_two c.set_in_row.result
    (rows_same c.args.rows.now.items _ c.args.place.row c.index_mut.result.now c.set_in_row.new.row within c.requires.sized
    (get_or_read c.args.rows.now.items c.args.place.row c.index_mut.result.now within c.index_mut.ensures.value []) refl)
    c.set_in_row.ensures.sized c.set_in_row.ensures.same
