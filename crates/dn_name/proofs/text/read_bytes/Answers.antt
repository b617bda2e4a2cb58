use Rattle.std.proofs.Common.{arith}
use Rattle.std.proofs.Math.ListN.{length-set}
use Rattle.dn_name.proofs.LabelTurnLemmas.{part_more, part_full}
use Rattle.dn_name.proofs.text.read_bytes.Goals as goal

pub returns-then-label-eq63-clause-part : goal.returns-then-label-eq63-clause-part
returns-then-label-eq63-clause-part c =
    part_full c.args.text.now c.loop-byte.label.bytes c.loop-byte.rest.now c.in-Some.behind.now c.in-Some.byte (omega arith)
    (rw c.if-label-eq63.true at c.loop-byte.invariant.2) c.in-Some.ensures.byte

pub loop-byte-preserved : goal.loop-byte-preserved
loop-byte-preserved c = (
  omega arith,
  omega (arith, length-set c.loop-byte.label.bytes c.loop-byte.label.len c.in-Some.byte),
  part_more c.args.text.now c.loop-byte.label.bytes c.loop-byte.rest.now c.in-Some.behind.now c.loop-byte.label.len c.in-Some.byte
      (omega arith) (omega arith) c.loop-byte.invariant.2 c.in-Some.ensures.byte c.in-Some.ensures.less,
)
