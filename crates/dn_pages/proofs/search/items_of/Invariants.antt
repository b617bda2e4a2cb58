use Rattle.std.proofs.Common.{◌≡◌, ◌+◌, drop, length}
use Rattle.dn_pages.specs.Pages.{joined}
use Rattle.dn_pages.proofs.search.items_of.Given as goal

abbrev pub invariant-loop-page : goal.invariant-loop-page
invariant-loop-page g l = l.count + length (joined (drop l.page-index l.pages)) ≡ length (joined l.pages)
