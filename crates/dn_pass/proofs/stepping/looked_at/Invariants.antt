use Rattle.std.proofs.Common.{◌≡◌, filter, map, take}
use Rattle.std.specs.Prelude.{option_copied, slice_get}
use Rattle.dn_store.specs.Table.{is_above}
use Rattle.dn_store.proofs.CallerLemmas.{behind}
use Rattle.dn_pass.proofs.stepping.looked_at.Given as goal

abbrev pub invariant-loop-at : goal.invariant-loop-at
invariant-loop-at l = record {
  looked : map behind l.looked.items ≡ take l._at (filter (is_above l.fn.after) l.table.0);
  next : option_copied l.next ≡ slice_get (filter (is_above l.fn.after) l.table.0) l._at;
}
