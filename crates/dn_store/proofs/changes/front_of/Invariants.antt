use Rattle.std.proofs.Common.{◌-◌, drop, length}
use Rattle.dn_pages.specs.Pages.{IsSettled, items, rank}
use Rattle.dn_store.proofs.FrontingLemmas.{IsBegun}
use Rattle.dn_store.proofs.changes.front_of.Given as goal

abbrev pub invariant-loop-held : goal.invariant-loop-held
invariant-loop-held l = record {
  settled : IsSettled l.changes l.place;
  begun : IsBegun l.room (drop (rank l.changes l.fn.start) (items l.changes)) l.left l.found (drop (rank l.changes l.place) (items l.changes));
}

abbrev pub decreases-loop-held : goal.decreases-loop-held
decreases-loop-held l = length (items l.changes) - rank l.changes l.place
