use Rattle.std.proofs.Common.{◌≡◌, ◌++◌, take, map}
use Rattle.dn_store.specs.Rows.{owned_by}
use Rattle.dn_answer.proofs.rows.push_rows.Given as goal

abbrev pub invariant-loop-row : goal.invariant-loop-row
invariant-loop-row l = l.list ≡ l.initial.list ++ map (owned_by l.name) (take l.row-index l.rows)
