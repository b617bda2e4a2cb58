use Rattle.std.proofs.Common.{◌∙◌, ◌+◌, ◌-◌, ◌<◌, ap, arith, length}
use Rattle.std.proofs.lemmas.Result.{on_ok_weaker}
use Rattle.std.specs.List.{insert}
use Rattle.dn_pages.specs.Pages.{items, joined, rank}
use Rattle.dn_pages.proofs.JoinedLemmas.{split_long}
use Rattle.dn_pages.proofs.RowsLemmas.{back_inside, back_rank, front_inside, front_rank}
use Rattle.dn_pages.proofs.rows.insert_in_full_row.Goals as goal

pub insert_with_room-requires-clause-inside : goal.insert_with_room-requires-clause-inside
insert_with_room-requires-clause-inside g c =
    front_inside c.args.rows.now.items c.split_page.new.row.items c.args.place 32 c.if-place-lt-PAGE_HALF.true c.in_ok-split_page.ensures.front c.requires.inside

pub insert_with_room-requires-clause-room : goal.insert_with_room-requires-clause-room
insert_with_room-requires-clause-room g c =
    let long = (split_long c.args.rows.now.items c.split_page.new.row.items c.args.place.row c.requires.full c.in_ok-split_page.ensures.front c.in_ok-split_page.ensures.back).0 in
    omega (arith, long)

pub returns-then-place-lt-PAGE_HALF-clause-items : goal.returns-then-place-lt-PAGE_HALF-clause-items
returns-then-place-lt-PAGE_HALF-clause-items g c =
    let same = front_rank c.args.rows.now.items c.split_page.new.row.items c.args.place 32 c.if-place-lt-PAGE_HALF.true c.in_ok-split_page.ensures.front c.in_ok-split_page.ensures.before in
    on_ok_weaker c.insert_with_room.result
    (λ made. made ∙ ap (λ list. insert (joined list) (rank c.split_page.new.row.items c.args.place) c.args.item) c.in_ok-split_page.ensures.joined
    ∙ ap (λ at. insert (items c.args.rows.now.items) at c.args.item) same)
    c.insert_with_room.ensures.items

pub insert_with_room-requires-2-clause-inside : goal.insert_with_room-requires-2-clause-inside
insert_with_room-requires-2-clause-inside g c =
    back_inside c.args.rows.now.items c.split_page.new.row.items c.args.place 32 (c.args.place.page - 32) (omega (arith, c.if-place-lt-PAGE_HALF.false)) c.in_ok-split_page.ensures.back c.requires.inside

pub insert_with_room-requires-2-clause-room : goal.insert_with_room-requires-2-clause-room
insert_with_room-requires-2-clause-room g c =
    let long = (split_long c.args.rows.now.items c.split_page.new.row.items c.args.place.row c.requires.full c.in_ok-split_page.ensures.front c.in_ok-split_page.ensures.back).1 in
    omega (arith, long)

pub returns-clause-items : goal.returns-clause-items
returns-clause-items g c =
    let within : c.args.place.row < length c.split_page.new.row.items = omega (arith, c.in_ok-split_page.ensures.more, c.requires.within) in
    let same =
    back_rank c.args.rows.now.items c.split_page.new.row.items c.args.place 32 (c.args.place.page - 32) within (omega (arith, c.if-place-lt-PAGE_HALF.false)) c.in_ok-split_page.ensures.front c.in_ok-split_page.ensures.back
    c.in_ok-split_page.ensures.before in
    on_ok_weaker c.insert_with_room-2.result
    (λ made. made
    ∙ ap (λ list. insert (joined list) (rank c.split_page.new.row.items record { row = c.args.place.row + 1; page = c.args.place.page - 32; at = c.args.place.at }) c.args.item) c.in_ok-split_page.ensures.joined
    ∙ ap (λ at. insert (items c.args.rows.now.items) at c.args.item) same)
    c.insert_with_room-2.ensures.items
