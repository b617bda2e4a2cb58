use Rattle.std.proofs.Common.{◌≡◌, ◌∙◌, ◌-◌, ap, ap₂, arith, length, min, drop, nat_cmp}
use Rattle.std.specs.Ordering.{ordering_then}
use Rattle.dn_name.specs.Name.{lowered}
use Rattle.dn_name.specs.Walk.{order_of}
use Rattle.dn_name.proofs.LabelWalkLemmas.{all-drop}
use Rattle.dn_name.proofs.OrderLemmas.{as_many, order_lowered}
use Rattle.dn_name.proofs.name.Name.compare.Goals as goal

pub returns : goal.returns
returns c =
    let left = c.args.self.now in
    let right = c.args.other.now in
    let a = c.labels-left_count.result - c.min-shared.result in
    let b = c.labels-right_count.result - c.min-shared.result in
    let left_more : a ≡ length left - min (length left) (length right) = omega (arith, c.labels-left_count.ensures, c.labels-right_count.ensures, c.min-shared.ensures) in
    let right_more : b ≡ length right - min (length left) (length right) = omega (arith, c.labels-left_count.ensures, c.labels-right_count.ensures, c.min-shared.ensures) in
    c.compare_labels.ensures (drop a left) (drop b right)
    (all-drop a left c.wire.ensures.name.0) (all-drop b right c.wire-2.ensures.name.0)
    (as_many left right a b left_more right_more)
    (c.skip_labels.ensures left c.wire.ensures.name.0 c.wire.ensures.wire)
    (c.skip_labels-2.ensures right c.wire-2.ensures.name.0 c.wire-2.ensures.wire)
    ∙ ap (ordering_then (order_of (lowered (drop a left)) (lowered (drop b right)))) (c.cmp.ensures ∙ ap₂ nat_cmp c.labels-left_count.ensures c.labels-right_count.ensures)
    ∙ order_lowered left right a b left_more right_more
