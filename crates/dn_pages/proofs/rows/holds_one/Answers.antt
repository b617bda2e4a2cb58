use Rattle.dn_pages.proofs.RowsLemmas.{many_items}
use Rattle.dn_pages.proofs.rows.holds_one.Goals as goal

pub returns-in_default : goal.returns-in_default
returns-in_default g c = many_items c.args.row.now c.requires c.in_default.len_at_least
