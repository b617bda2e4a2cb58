use Rattle.std.proofs.Common.{◌≡◌, ◌+◌, drop}
use Rattle.dn_pages.specs.Pages.{items}
use Rattle.dn_store.specs.Numbers.{IsKept}
use Rattle.dn_store.specs.Table.{units_after}
use Rattle.dn_store.proofs.writing.take_writes.Given as goal

abbrev pub invariant-loop-write : goal.invariant-loop-write
invariant-loop-write l = record {
  counted : l.number ≡ l.top + l.write-index;
  rest : units_after (items l.drafts.units) l.number (drop l.write-index l.batch) ≡ units_after (items l.initial.drafts.units) l.top l.batch;
  kept : IsKept (items l.drafts.units) (items l.drafts.changes) l.number;
}
