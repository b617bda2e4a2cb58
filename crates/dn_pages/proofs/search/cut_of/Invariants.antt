use Rattle.std.proofs.Common.{◌≡◌, ℕ, ◌+◌, ◌-◌, ◌<◌, ◌≤◌, true, false, length, get_or}
use Rattle.dn_pages.proofs.search.cut_of.Given as goal

abbrev pub invariant-loop-low : goal.invariant-loop-low
invariant-loop-low g l = record {
  within : l.low ≤ l.high;
  most : l.high ≤ length l.items;
  before : (last : ℕ) (d : g.row.T.Denot) → last + 1 ≡ l.low → g.M.Mark.below l.mark (get_or l.items last d) ≡ true;
  behind : (d : g.row.T.Denot) → l.high < length l.items → g.M.Mark.below l.mark (get_or l.items l.high d) ≡ false;
}

abbrev pub decreases-loop-low : goal.decreases-loop-low
decreases-loop-low g l = l.high - l.low
