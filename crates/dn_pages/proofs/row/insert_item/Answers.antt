use Rattle.std.proofs.Common.{◌∙◌, ◌<◌, ◌≤◌, [], ap, arith, get_or, length}
use Rattle.std.proofs.lemmas.Result.{on_ok_weaker}
use Rattle.std.specs.List.{insert}
use Rattle.dn_pages.specs.Pages.{joined}
use Rattle.dn_pages.proofs.JoinedLemmas.{next_same, page_at}
use Rattle.dn_pages.proofs.row.insert_item.Goals as goal

pub returns-then-spot-ge-PAGE_MOST-clause-joined : goal.returns-then-spot-ge-PAGE_MOST-clause-joined
returns-then-spot-ge-PAGE_MOST-clause-joined g c =
    let within : c.args.spot.page < length c.args.row.now.items = omega (arith, c.if-spot-len.false, c.len.ensures) in
    let most : length (get_or c.args.row.now.items c.args.spot.page []) ≤ 64 = (page_at c.args.row.now.items c.args.spot.page c.requires.sized within).1 in
    let same = next_same c.args.row.now.items c.args.spot.page c.args.spot.at within (omega (arith, most, c.requires.inside, c.if-spot-ge-PAGE_MOST.true)) in
    on_ok_weaker c.insert_page-then-spot-ge-PAGE_MOST.result
    (λ made. made ∙ ap (λ place. insert (joined c.args.row.now.items) place c.args.item) (omega arith ∙ same))
    c.insert_page-then-spot-ge-PAGE_MOST.ensures.joined
