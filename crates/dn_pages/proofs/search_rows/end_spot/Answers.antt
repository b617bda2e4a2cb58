use Rattle.std.proofs.Common.{◌∙◌, ◌-◌, ◌<◌, [], ap, arith, length}
use Rattle.std.proofs.lemmas.List.{get_or_read}
use Rattle.dn_pages.proofs.JoinedLemmas.{end_rank}
use Rattle.dn_pages.proofs.search_rows.end_spot.Goals as goal

pub returns-clause-end : goal.returns-clause-end
returns-clause-end g c =
    let within : length c.args.pages.now - 1 < length c.args.pages.now = omega (arith, c.requires) in
    end_rank c.args.pages.now (length c.args.pages.now - 1) (length c.as_slice-at.result.now) (omega (arith, c.requires))
    (ap length (c.as_slice-at.ensures ∙ get_or_read c.args.pages.now (length c.args.pages.now - 1) c.index-pages-page.result within c.index-pages-page.is []))
