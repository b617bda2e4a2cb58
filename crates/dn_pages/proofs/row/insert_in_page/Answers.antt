use Rattle.std.proofs.Common.{◌∙◌, [], ap, refl}
use Rattle.std.proofs.lemmas.List.{get_or_read}
use Rattle.std.proofs.lemmas.Result.{on_ok_weaker}
use Rattle.std.specs.List.{insert}
use Rattle.dn_pages.proofs.JoinedLemmas.{inserted}
use Rattle.dn_pages.proofs.row.insert_in_page.Goals as goal

pub returns-clause-joined : goal.returns-clause-joined
returns-clause-joined g c =
    on_ok_weaker c.insert.result
    (λ made.
    inserted c.args.row.now.items _ c.args.spot c.insert.new.self c.args.item c.requires.within c.requires.inside
    (made ∙ ap (λ list. insert list c.args.spot.at c.args.item) (get_or_read c.args.row.now.items c.args.spot.page c.index_mut.result.now c.requires.within c.index_mut.ensures.value [])) refl)
    c.insert.ensures
