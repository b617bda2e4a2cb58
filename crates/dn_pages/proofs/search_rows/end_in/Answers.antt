use Rattle.std.proofs.Common.{◌∙◌, ◌-◌, ◌<◌, [], arith, length}
use Rattle.std.proofs.lemmas.Bool.Decides.{nat_tests}
use Rattle.std.proofs.lemmas.List.{get_or_read}
use Rattle.dn_pages.proofs.RowSearchLemmas.{last_row_seen}
use Rattle.dn_pages.proofs.search_rows.end_in.Goals as goal

pub returns-clause-end : goal.returns-clause-end
returns-clause-end g c =
    let more : 0 < length c.args.rows.now = grind (arith, nat_tests, c.is_empty.ensures, c.if-is_empty.false) in
    let within : length c.args.rows.now - 1 < length c.args.rows.now = omega (arith, more) in
    last_row_seen c.args.rows.now (record { row = length c.args.rows.now - 1; page = c.end_spot-page.result.page; at = c.end_spot-page.result.at }) c.as_slice.result.now (omega (arith, more))
    (c.as_slice.ensures ∙ get_or_read c.args.rows.now (length c.args.rows.now - 1) c.index-rows-row.result within c.index-rows-row.is []) c.end_spot-page.ensures.end
