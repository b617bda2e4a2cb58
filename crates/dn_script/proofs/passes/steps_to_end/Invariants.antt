use Rattle.std.proofs.Common.{◌≡◌, ◌-◌}
use Rattle.dn_script.specs.Passes.{steps_from}
use Rattle.dn_script.proofs.passes.steps_to_end.Given as goal

-- the steps that are left from this world end as all of them do from the first
abbrev pub invariant-loop-left : goal.invariant-loop-left
invariant-loop-left l = steps_from (l.most - l._left) l.world l.at l.apex ≡ steps_from l.most l.initial.world l.at l.apex
