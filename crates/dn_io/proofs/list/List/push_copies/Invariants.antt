use Rattle.std.proofs.Common.{◌≡◌, ◌++◌, take}
use Rattle.dn_io.proofs.list.List.push_copies.Given as goal

abbrev pub invariant-loop-item : goal.invariant-loop-item
invariant-loop-item g l = l.self ≡ l.initial.self ++ take l.item-index l.items
