use Rattle.std.proofs.Common.{◌≡◌, ◌∙◌, [], ap, arith, get_or, length}
use Rattle.std.proofs.lemmas.List.{get_or_read}
use Rattle.dn_pages.proofs.JoinedLemmas.{end_settled, next_same}
use Rattle.dn_pages.proofs.search.settled.Goals as goal

pub returns-then-page-pages-clause-same : goal.returns-then-page-pages-clause-same
returns-then-page-pages-clause-same g c =
    let page : length c.as_slice.result.now ≡ length (get_or c.args.pages.now c.args.page []) =
    ap length (c.as_slice.ensures ∙ get_or_read c.args.pages.now c.args.page c.index-pages-page.result c.requires.within c.index-pages-page.is []) in
    next_same c.args.pages.now c.args.page c.args.at c.requires.within (omega (arith, page, c.requires.inside, c.if-at-as_slice.false))

pub returns-clause-settled : goal.returns-clause-settled
returns-clause-settled g c =
    let page : length c.as_slice.result.now ≡ length (get_or c.args.pages.now c.args.page []) =
    ap length (c.as_slice.ensures ∙ get_or_read c.args.pages.now c.args.page c.index-pages-page.result c.requires.within c.index-pages-page.is []) in
    end_settled c.args.pages.now c.args.page c.args.at (omega (arith, c.requires.within, c.if-page-pages.false)) (omega (arith, page, c.requires.inside, c.if-at-as_slice.false))
