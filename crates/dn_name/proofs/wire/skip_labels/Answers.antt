use Rattle.std.proofs.Common.{◌∙◌, ◌+◌, ap, arith, drop}
use Rattle.dn_name.specs.Name.{wire_of}
use Rattle.dn_name.proofs.LabelWalkLemmas.{all-drop, ended, one_more}
use Rattle.dn_name.proofs.wire.skip_labels.Goals as goal

pub returns-in_default : goal.returns-in_default
returns-in_default c = λ name l e.
    c.loop.invariant name l e
    ∙ ap wire_of (ended c.loop.counter c.args.count name (omega arith) (c.in_default.ensures.name (drop c.loop.counter name) (all-drop c.loop.counter name l) (c.loop.invariant name l e)))

pub loop-preserved : goal.loop-preserved
loop-preserved c = λ name l e.
    (one_more c.loop.counter (c.loop.counter + 1) name _ _ (omega arith)
    (c.in-Some.ensures.name (drop c.loop.counter name) (all-drop c.loop.counter name l) (c.loop.invariant name l e))).0
