use Rattle.std.proofs.Common.{◌≡◌, take}
use Rattle.std.specs.Prelude.{filter, nat_eq}
use Rattle.dn_answer.proofs.rows.of_type.Given as goal

abbrev pub invariant-loop-one : goal.invariant-loop-one
invariant-loop-one l = l.found ≡ filter (λ one. nat_eq one.row.rtype l.rtype) (take l.one-index l.rows)
