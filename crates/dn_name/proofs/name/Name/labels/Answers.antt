use Rattle.std.proofs.Common.{arith, ◌+◌}
use Rattle.dn_name.proofs.LabelWalkLemmas.{all-drop, one_more, all_counted}
use Rattle.dn_name.proofs.WireNameLemmas.{two_a_label}
use Rattle.dn_name.proofs.name.Name.labels.Goals as goal

pub overflow_add-count : goal.overflow_add-count
overflow_add-count c =
    let more = one_more c.loop-rest.count (c.loop-rest.count + 1) c.args.self.now _ _ (omega arith)
    (c.in-Some.ensures.name _ (all-drop c.loop-rest.count c.args.self.now c.wire-wire.ensures.name.0) c.loop-rest.invariant.rest) in
    omega (arith, more.1, two_a_label c.args.self.now c.wire-wire.ensures.name.0, c.wire-wire.ensures.name.1)

pub loop-rest-preserved : goal.loop-rest-preserved
loop-rest-preserved c =
    let more = one_more c.loop-rest.count (c.loop-rest.count + 1) c.args.self.now _ _ (omega arith)
    (c.in-Some.ensures.name _ (all-drop c.loop-rest.count c.args.self.now c.wire-wire.ensures.name.0) c.loop-rest.invariant.rest) in
    record { rest = more.0; few = omega (arith, more.1) }

pub returns : goal.returns
returns c = all_counted c.loop-rest.count c.args.self.now c.loop-rest.invariant.few
    (c.in_default.ensures.name _ (all-drop c.loop-rest.count c.args.self.now c.wire-wire.ensures.name.0) c.loop-rest.invariant.rest)
