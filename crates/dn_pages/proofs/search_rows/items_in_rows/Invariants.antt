use Rattle.std.proofs.Common.{◌≡◌, ◌+◌, drop, length}
use Rattle.dn_pages.specs.Pages.{items}
use Rattle.dn_pages.proofs.search_rows.items_in_rows.Given as goal

abbrev pub invariant-loop-row : goal.invariant-loop-row
invariant-loop-row g l = l.count + length (items (drop l.row-index l.rows)) ≡ length (items l.rows)
