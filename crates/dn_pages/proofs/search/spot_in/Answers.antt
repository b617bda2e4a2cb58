use Rattle.std.proofs.Common.{◌∙◌, []}
use Rattle.std.proofs.lemmas.List.{get_or_read}
use Rattle.dn_pages.proofs.CutLemmas.{cut_seen}
use Rattle.dn_pages.proofs.search.spot_in.Goals as goal

pub returns-clause-cut : goal.returns-clause-cut
returns-clause-cut g c =
    cut_seen (g.M.Mark.below c.args.mark.now) c.args.pages.now c.home_of-page.result c.cut_of-at.result _ c.as_slice.result.now c.requires c.home_of-page.ensures
    (c.as_slice.ensures ∙ get_or_read c.args.pages.now c.home_of-page.result c.index-pages-page.result c.home_of-page.ensures.within c.index-pages-page.is []) c.cut_of-at.ensures c.settled.ensures.same
