use Rattle.std.proofs.Common.{◌≡◌, ◌-◌, ◌^◌, take}
use Rattle.std.specs.Prelude.{min, sum_by}
use Rattle.dn_answer.specs.Size.{rr_size}
use Rattle.dn_answer.proofs.size.rows_size.Given as goal

abbrev pub invariant-loop-one : goal.invariant-loop-one
invariant-loop-one l = l.sum ≡ min (sum_by rr_size (take l.one-index l.rows)) (2 ^ 64 - 1)
