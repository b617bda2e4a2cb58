use Rattle.std.proofs.Common.{◌∙◌, ◌<◌, ◌≤◌, [], ap, length, nat_le, refl, sym}
use Rattle.std.proofs.lemmas.Bool.{leb-true}
use Rattle.std.proofs.lemmas.List.{get_or_read}
use Rattle.std.proofs.lemmas.Result.{on_ok_weaker}
use Rattle.dn_pages.specs.Pages.{joined, row_at}
use Rattle.dn_pages.proofs.RowsLemmas.{on_ok_three, place_there, row_gone, row_less, rows_kept, rows_without, seen_sized}
use Rattle.dn_pages.proofs.rows.remove_in_rows.Goals as goal

pub holds_one-requires : goal.holds_one-requires
holds_one-requires g c =
    let within : c.args.place.row < length c.args.rows.now.items = place_there c.args.rows.now.items c.args.place c.requires.there in
    seen_sized c.args.rows.now.items c.args.place.row c.as_slice.result.now c.requires.sized
    (c.as_slice.ensures ∙ get_or_read c.args.rows.now.items c.args.place.row c.index.result.now within c.index.ensures [])

pub returns-then-holds_one-clause-items : goal.returns-then-holds_one-clause-items
returns-then-holds_one-clause-items g c =
    let within : c.args.place.row < length c.args.rows.now.items = place_there c.args.rows.now.items c.args.place c.requires.there in
    let seen = c.as_slice.ensures ∙ get_or_read c.args.rows.now.items c.args.place.row c.index.result.now within c.index.ensures [] in
    let one : length (joined (row_at c.args.rows.now.items c.args.place.row)) ≤ 1 =
    leb-true _ 1 (ap (λ list. nat_le (length (joined list)) 1) (sym seen) ∙ sym c.holds_one.ensures ∙ c.if-holds_one.true) in
    row_gone c.args.rows.now.items c.remove.new.self.items c.args.place c.requires.there one c.remove.ensures.by_index.2

pub returns-then-holds_one-clause-sized : goal.returns-then-holds_one-clause-sized
returns-then-holds_one-clause-sized g c =
    let within : c.args.place.row < length c.args.rows.now.items = place_there c.args.rows.now.items c.args.place c.requires.there in
    rows_without c.args.rows.now.items c.remove.new.self.items c.args.place.row within c.requires.sized c.remove.ensures.by_index.2

pub remove_in_row-requires-clause-sized : goal.remove_in_row-requires-clause-sized
remove_in_row-requires-clause-sized g c =
    let within : c.args.place.row < length c.args.rows.now.items = place_there c.args.rows.now.items c.args.place c.requires.there in
    seen_sized c.args.rows.now.items c.args.place.row c.index_mut.result.now c.requires.sized
    (get_or_read c.args.rows.now.items c.args.place.row c.index_mut.result.now within c.index_mut.ensures.value [])

pub returns-clause-items : goal.returns-clause-items
returns-clause-items g c =
    let within : c.args.place.row < length c.args.rows.now.items = place_there c.args.rows.now.items c.args.place c.requires.there in
    on_ok_weaker c.remove_in_row.result
    (λ made.
    row_less c.args.rows.now.items _ c.args.place c.index_mut.result.now c.remove_in_row.new.row c.spot.result within c.requires.there
    (get_or_read c.args.rows.now.items c.args.place.row c.index_mut.result.now within c.index_mut.ensures.value []) c.spot.ensures made refl)
    c.remove_in_row.ensures.joined

pub returns-clause-sized : goal.returns-clause-sized
returns-clause-sized g c =
    let within : c.args.place.row < length c.args.rows.now.items = place_there c.args.rows.now.items c.args.place c.requires.there in
    let first = c.as_slice.ensures ∙ get_or_read c.args.rows.now.items c.args.place.row c.index.result.now within c.index.ensures [] in
    let seen = get_or_read c.args.rows.now.items c.args.place.row c.index_mut.result.now within c.index_mut.ensures.value [] in
    on_ok_three c.remove_in_row.result
    (rows_kept c.args.rows.now.items _ c.args.place c.index_mut.result.now c.remove_in_row.new.row c.spot.result c.requires.there c.requires.sized seen c.spot.ensures refl
    (ap (λ list. nat_le (length (joined list)) 1) (seen ∙ sym first) ∙ sym c.holds_one.ensures ∙ c.if-holds_one.false))
    c.remove_in_row.ensures.sized c.remove_in_row.ensures.joined c.remove_in_row.ensures.fewer
