use Rattle.std.proofs.Common.{◌≡◌, ◌++◌, drop}
use Rattle.dn_answer.specs.Glue.{glue}
use Rattle.dn_answer.proofs.glue.glue.Given as goal

abbrev pub invariant-loop-one : goal.invariant-loop-one
invariant-loop-one l = l.list ++ glue l.spelled l.rows l.apex l.put (drop l.one-index l.named) ≡ glue l.spelled l.rows l.apex l.named l.named
