use Rattle.std.proofs.Common.{◌∙◌, ◌<◌, [], ap, length}
use Rattle.std.proofs.lemmas.List.{get_or_read}
use Rattle.std.specs.Prelude.{slice_get}
use Rattle.dn_pages.proofs.JoinedLemmas.{item_seen, none_past}
use Rattle.dn_pages.proofs.search.item_in.Goals as goal

pub returns-then-spot-pages : goal.returns-then-spot-pages
returns-then-spot-pages g c = none_past c.args.pages.now c.args.spot c.if-spot-pages.true

pub returns : goal.returns
returns g c =
    let within : c.args.spot.page < length c.args.pages.now = c.if-spot-pages.false in
    c.nth.ensures
    ∙ ap (λ list. slice_get list c.args.spot.at) (c.as_slice.ensures ∙ get_or_read c.args.pages.now c.args.spot.page c.index-pages-spot.result within c.index-pages-spot.is [])
    ∙ item_seen c.args.pages.now c.args.spot within c.requires
