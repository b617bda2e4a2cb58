use Rattle.std.proofs.Common.{◌≡◌, ◌-◌, ◌<◌, ◌≤◌, true, false, [], length, get_or}
use Rattle.dn_pages.specs.Search.{starts_below}
use Rattle.dn_pages.proofs.search.home_of.Given as goal

abbrev pub invariant-loop-high : goal.invariant-loop-high
invariant-loop-high g l = record {
  within : l.low < l.high;
  most : l.high ≤ length l.pages;
  from : 0 < l.low → starts_below (g.M.Mark.below l.mark) (get_or l.pages l.low []) ≡ true;
  before : l.high < length l.pages → starts_below (g.M.Mark.below l.mark) (get_or l.pages l.high []) ≡ false;
}

abbrev pub decreases-loop-high : goal.decreases-loop-high
decreases-loop-high g l = l.high - l.low
