use Rattle.std.proofs.Common.{◌≡◌, map, take}
use Rattle.dn_answer.specs.Answer.{rr_of}
use Rattle.dn_answer.proofs.replying.rrs_of.Given as goal

abbrev pub invariant-loop-one : goal.invariant-loop-one
invariant-loop-one l = l.list ≡ map (rr_of l.spelled l.apex l.host l.serial) (take l.one-index l.rows)
