use Rattle.std.proofs.Common.{[], refl}
use Rattle.std.proofs.lemmas.List.{get_or_read}
use Rattle.std.proofs.lemmas.Result.{on_ok_weaker}
use Rattle.dn_pages.proofs.RowsLemmas.{on_ok_three, row_inserted, rows_grown, seen_sized}
use Rattle.dn_pages.proofs.rows.insert_with_room.Goals as goal

pub insert_in_row-requires-clause-sized : goal.insert_in_row-requires-clause-sized
insert_in_row-requires-clause-sized g c =
    seen_sized c.args.rows.now.items c.args.place.row c.index_mut.result.now c.requires.sized
    (get_or_read c.args.rows.now.items c.args.place.row c.index_mut.result.now c.requires.within c.index_mut.ensures.value [])

pub returns-clause-items : goal.returns-clause-items
returns-clause-items g c =
    on_ok_weaker c.insert_in_row.result
    (λ made.
    row_inserted c.args.rows.now.items _ c.args.place c.index_mut.result.now c.insert_in_row.new.row c.spot.result c.args.item c.requires.within c.requires.inside
    (get_or_read c.args.rows.now.items c.args.place.row c.index_mut.result.now c.requires.within c.index_mut.ensures.value []) c.spot.ensures made refl)
    c.insert_in_row.ensures.joined

pub returns-clause-sized : goal.returns-clause-sized
returns-clause-sized g c =
    on_ok_three c.insert_in_row.result
    (rows_grown c.args.rows.now.items _ c.args.place.row c.index_mut.result.now c.insert_in_row.new.row c.requires.within c.requires.room c.requires.sized
    (get_or_read c.args.rows.now.items c.args.place.row c.index_mut.result.now c.requires.within c.index_mut.ensures.value []) refl)
    c.insert_in_row.ensures.sized c.insert_in_row.ensures.least c.insert_in_row.ensures.most
