use Rattle.std.proofs.Common.{◌≡◌, ◌++◌, map, take}
use Rattle.dn_answer.specs.Glue.{glue_rr}
use Rattle.dn_answer.proofs.glue.push_glue.Given as goal

abbrev pub invariant-loop-one : goal.invariant-loop-one
invariant-loop-one l = l.list ≡ l.initial.list ++ map (glue_rr l.spelled l.server) (take l.one-index l.new)
