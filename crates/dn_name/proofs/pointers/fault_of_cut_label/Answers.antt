use Rattle.std.proofs.Common.{arith, length}
use Rattle.dn_name.specs.declared.error.NameFault.TheVariants.{Short, NameTooLong}
use Rattle.dn_name.specs.FirstFault.{CutLabel, Passes}
use Rattle.dn_name.proofs.PointerTurnLemmas.{meets_by}
use Rattle.dn_name.proofs.pointers.fault_of_cut_label.Goals as goal

pub returns-then-wire_len-from-gt255 : goal.returns-then-wire_len-from-gt255
returns-then-wire_len-from-gt255 c =
    meets_by c.args.bytes.now c.args.walk.now NameTooLong c.args.walk.now.place _ c.fault_at.ensures
    (Passes c.args.len c.requires.at.0 c.requires.at.1 c.requires.len.0 c.requires.len.1 (omega arith))

pub returns-else-wire_len-from-gt255 : goal.returns-else-wire_len-from-gt255
returns-else-wire_len-from-gt255 c =
    meets_by c.args.bytes.now c.args.walk.now Short (length c.args.bytes.now) _ c.fault_at-else-wire_len-from-gt255.ensures
    (CutLabel c.args.len c.requires.at.0 c.requires.at.1 c.requires.len.0 c.requires.len.1 (omega arith) c.requires.at.2)
