use Rattle.std.proofs.Common.{◌∙◌, ◌<◌, [], ap, length, refl, set}
use Rattle.std.proofs.lemmas.List.{get_or_read}
use Rattle.std.proofs.lemmas.Result.{on_ok_weaker}
use Rattle.dn_pages.proofs.JoinedLemmas.{put, there_within}
use Rattle.dn_pages.proofs.row.set_item.Goals as goal

pub returns-clause-joined : goal.returns-clause-joined
returns-clause-joined g c =
    let within : c.args.spot.page < length c.args.row.now.items = there_within c.args.row.now.items c.args.spot.page c.args.spot.at c.requires.there in
    on_ok_weaker c.set.result
    (λ made.
    put c.args.row.now.items _ c.args.spot c.set.new.self c.args.item within c.requires.there
    (made ∙ ap (λ list. set list c.args.spot.at c.args.item) (get_or_read c.args.row.now.items c.args.spot.page c.index_mut.result.now within c.index_mut.ensures.value [])) refl)
    c.set.ensures
