use Rattle.std.proofs.Common.{◌∙◌, ◌+◌, ◌-◌, ◌<◌, ap, arith, length}
use Rattle.std.proofs.lemmas.Result.{on_ok_weaker}
use Rattle.std.specs.List.{insert}
use Rattle.dn_pages.specs.Pages.{joined, count_before}
use Rattle.dn_pages.proofs.JoinedLemmas.{half_next, split_long}
use Rattle.dn_pages.proofs.row.insert_in_full.Goals as goal

pub returns-clause-joined : goal.returns-clause-joined
returns-clause-joined g c =
    let within : c.args.spot.page < length c.split_page.new.row.items = omega (arith, c.in_ok-split_page.ensures.more, c.requires.within) in
    let long = (split_long c.args.row.now.items c.split_page.new.row.items c.args.spot.page c.requires.full c.in_ok-split_page.ensures.front c.in_ok-split_page.ensures.back).0 in
    let same = half_next c.args.row.now.items c.split_page.new.row.items c.args.spot 32 within long c.if-spot-le-PAGE_HALF.false c.in_ok-split_page.ensures.before (c.args.spot.at - 32) (omega (arith, c.if-spot-le-PAGE_HALF.false)) in
    on_ok_weaker c.insert_in_page-2.result
    (λ made. made ∙ ap (λ list. insert list (count_before c.split_page.new.row.items record { page = c.args.spot.page + 1; at = c.args.spot.at - 32 }) c.args.item) c.in_ok-split_page.ensures.joined
    ∙ ap (λ place. insert (joined c.args.row.now.items) place c.args.item) same)
    c.insert_in_page-2.ensures.joined

pub insert_in_page-requires-clause-inside : goal.insert_in_page-requires-clause-inside
insert_in_page-requires-clause-inside g c =
    let long = (split_long c.args.row.now.items c.split_page.new.row.items c.args.spot.page c.requires.full c.in_ok-split_page.ensures.front c.in_ok-split_page.ensures.back).0 in
    omega (arith, long, c.if-spot-le-PAGE_HALF.true)

pub insert_in_page-requires-clause-room : goal.insert_in_page-requires-clause-room
insert_in_page-requires-clause-room g c =
    let long = (split_long c.args.row.now.items c.split_page.new.row.items c.args.spot.page c.requires.full c.in_ok-split_page.ensures.front c.in_ok-split_page.ensures.back).0 in
    omega (arith, long)

pub insert_in_page-requires-2-clause-inside : goal.insert_in_page-requires-2-clause-inside
insert_in_page-requires-2-clause-inside g c =
    let long = (split_long c.args.row.now.items c.split_page.new.row.items c.args.spot.page c.requires.full c.in_ok-split_page.ensures.front c.in_ok-split_page.ensures.back).1 in
    omega (arith, long, c.requires.inside, c.requires.full)

pub insert_in_page-requires-2-clause-room : goal.insert_in_page-requires-2-clause-room
insert_in_page-requires-2-clause-room g c =
    let long = (split_long c.args.row.now.items c.split_page.new.row.items c.args.spot.page c.requires.full c.in_ok-split_page.ensures.front c.in_ok-split_page.ensures.back).1 in
    omega (arith, long)
