use Rattle.std.proofs.Common.{◌≡◌, take}
use Rattle.std.specs.Prelude.{filter}
use Rattle.dn_answer.specs.Walk.{is_asked}
use Rattle.dn_answer.proofs.walk.asked_among.Given as goal

abbrev pub invariant-loop-one : goal.invariant-loop-one
invariant-loop-one l = l.found ≡ filter (is_asked l.qtype) (take l.one-index l.rows)
