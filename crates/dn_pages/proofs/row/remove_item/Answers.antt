use Rattle.std.proofs.Common.{◌≡◌, ◌∙◌, ◌<◌, [], ap, arith, get_or, length, refl}
use Rattle.std.proofs.lemmas.List.{get_or_read}
use Rattle.std.proofs.lemmas.Result.{on_ok_weaker}
use Rattle.std.specs.List.{remove}
use Rattle.dn_pages.proofs.JoinedLemmas.{page_removed, removed, there_within}
use Rattle.dn_pages.proofs.row.remove_item.Goals as goal

pub returns-then-as_slice-le1-clause-joined : goal.returns-then-as_slice-le1-clause-joined
returns-then-as_slice-le1-clause-joined g c =
    let within : c.args.spot.page < length c.args.row.now.items = there_within c.args.row.now.items c.args.spot.page c.args.spot.at c.requires.there in
    let page : length c.as_slice.result.now ≡ length (get_or c.args.row.now.items c.args.spot.page []) =
    ap length (c.as_slice.ensures ∙ get_or_read c.args.row.now.items c.args.spot.page c.index.result.now within c.index.ensures []) in
    page_removed c.args.row.now.items c.remove.new.self.items c.args.spot within (omega (arith, page, c.if-as_slice-le1.true)) c.requires.there c.remove.ensures.by_index.2

pub returns-clause-joined : goal.returns-clause-joined
returns-clause-joined g c =
    let within : c.args.spot.page < length c.args.row.now.items = there_within c.args.row.now.items c.args.spot.page c.args.spot.at c.requires.there in
    on_ok_weaker c.remove-2.result
    (λ made.
    removed c.args.row.now.items _ c.args.spot c.remove-2.new.self within c.requires.there
    (made ∙ ap (λ list. remove list c.args.spot.at) (get_or_read c.args.row.now.items c.args.spot.page c.index_mut.result.now within c.index_mut.ensures.value [])) refl)
    c.remove-2.ensures
