use Rattle.std.proofs.Common.{◌≡◌, not, take}
use Rattle.std.specs.Prelude.{filter}
use Rattle.std.specs.List.{list_any}
use Rattle.dn_answer.specs.Glue.{is_row}
use Rattle.dn_answer.proofs.glue.not_put.Given as goal

abbrev pub invariant-loop-one : goal.invariant-loop-one
invariant-loop-one l = l.list ≡ filter (λ one. not (list_any (is_row one) l.put)) (take l.one-index l.rows)
