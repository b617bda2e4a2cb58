use Rattle.std.proofs.Common.{◌∙◌, sym, ap}
use Rattle.dn_script.specs.Passes.{steps_from, steps_to_end}
use Rattle.dn_script.proofs.StepLemmas.{ends, goes_on, last}
use Rattle.dn_script.proofs.passes.steps_to_end.Goals as goal

pub returns-then-not-is_moved : goal.returns-then-not-is_moved
unfolding steps_to_end
returns-then-not-is_moved c =
    ap (λ most. steps_from most c.args.world.now c.args.at c.args.apex.now) (sym c.units_of-most.ensures)
    ∙ ends c.units_of-most.result c.loop-left._left c.loop-left.world c.step_at.new.world c.args.at c.args.apex.now c.in_ok-answer.answer
    (steps_from c.units_of-most.result c.args.world.now c.args.at c.args.apex.now) c.loop-left-test.true c.in_ok-answer.ensures c.if-not-is_moved.ensures c.loop-left.invariant

pub loop-left-preserved : goal.loop-left-preserved
loop-left-preserved c =
    goes_on c.units_of-most.result c.loop-left._left c.loop-left.world c.step_at.new.world c.args.at c.args.apex.now c.in_ok-answer.answer
    (steps_from c.units_of-most.result c.args.world.now c.args.at c.args.apex.now) c.loop-left-test.true c.in_ok-answer.ensures c.if-not-is_moved.ensures c.loop-left.invariant

pub returns : goal.returns
unfolding steps_to_end
returns c =
    rw (
      ← c.units_of-most.ensures,
      last c.units_of-most.result c.loop-left._left c.loop-left.world c.args.at c.args.apex.now
          (steps_from c.units_of-most.result c.args.world.now c.args.at c.args.apex.now) c.loop-left-test.false c.loop-left.invariant,
    ) c.step_at-2.ensures
