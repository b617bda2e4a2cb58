use Rattle.std.proofs.Common.{arith}
use Rattle.dn_name.proofs.TextWritingLemmas.{first_written, turn_written, wire_less}
use Rattle.dn_name.proofs.name.Name.write_text.Goals as goal

pub loop-label-init : goal.loop-label-init
loop-label-init c =
    first_written c.args.self.now c.in-Some.first.now c.in-Some.behind.now c.write_label-at.result c.args.out.now c.write_label-at.new.out
    c.wire.ensures.name (c.in-Some.ensures.name c.args.self.now c.wire.ensures.name.0 c.wire.ensures.wire) c.write_label-at.ensures

pub loop-label-preserved : goal.loop-label-preserved
loop-label-preserved c =
    let is = c.in-Some-split_label.ensures.name c.loop-label.invariant.left c.loop-label.invariant.labels c.loop-label.invariant.spelled in
    let less = wire_less c.loop-label.invariant.left c.loop-label.wire.now c.in-Some-split_label.label.now c.in-Some-split_label.behind.now c.loop-label.invariant.spelled is in
    turn_written c.args.self.now c.loop-label.wire.now c.in-Some-split_label.label.now c.in-Some-split_label.behind.now c.loop-label.at c.args.out.now
    c.loop-label.out c.write_label-at-in-Some-split_label.result c.write_label-at-in-Some-split_label.new.out c.loop-label.invariant
    is (omega (arith, less, c.loop-label.invariant.room)) c.write_label-at-in-Some-split_label.ensures
