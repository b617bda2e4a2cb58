use Rattle.std.proofs.Common.{arith, get_or}
use Rattle.dn_name.proofs.TextWritingLemmas.{byte_text_most, label_more}
use Rattle.dn_name.proofs.text.write_label.Goals as goal

pub loop-byte-preserved : goal.loop-byte-preserved
loop-byte-preserved c = (
  omega (arith, c.write_byte-at.ensures.place, byte_text_most (get_or c.args.label.now c.loop-byte.byte-index 0)),
  label_more c.args.start c.args.out.now c.args.label.now c.loop-byte.byte-index c.loop-byte.at c.loop-byte.out c.write_byte-at.result c.write_byte-at.new.out
      (omega arith) c.loop-byte.invariant.1 c.write_byte-at.ensures,
)
