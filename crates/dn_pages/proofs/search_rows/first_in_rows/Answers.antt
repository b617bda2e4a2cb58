use Rattle.std.proofs.Common.{◌∙◌, ◌<◌, [], ap, arith, length}
use Rattle.std.proofs.lemmas.Bool.Decides.{nat_tests}
use Rattle.std.proofs.lemmas.List.{get_or_read}
use Rattle.std.specs.Prelude.{slice_get}
use Rattle.dn_pages.specs.Pages.{joined}
use Rattle.dn_pages.proofs.RowSearchLemmas.{first_found}
use Rattle.dn_pages.proofs.RowsLemmas.{seen_sized}
use Rattle.dn_pages.proofs.search_rows.first_in_rows.Goals as goal

pub first_in-requires : goal.first_in-requires
first_in-requires g c =
    let more : 0 < length c.args.rows.now = grind (arith, nat_tests, c.is_empty.ensures, c.if-is_empty.false) in
    seen_sized c.args.rows.now 0 c.as_slice.result.now c.requires (c.as_slice.ensures ∙ get_or_read c.args.rows.now 0 c.index-rows-0.result more c.index-rows-0.is [])

pub returns : goal.returns
returns g c =
    let more : 0 < length c.args.rows.now = grind (arith, nat_tests, c.is_empty.ensures, c.if-is_empty.false) in
    c.first_in.ensures
    ∙ ap (λ list. slice_get (joined list) 0) (c.as_slice.ensures ∙ get_or_read c.args.rows.now 0 c.index-rows-0.result more c.index-rows-0.is [])
    ∙ first_found c.args.rows.now c.requires more
