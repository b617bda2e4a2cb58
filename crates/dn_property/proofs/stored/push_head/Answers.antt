use Rattle.std.proofs.Common.{◌++◌, ap, ◌∙◌}
use Rattle.dn_property.specs.Numbers.{four_little}
use Rattle.dn_property.specs.Stored.{head_of}
use Rattle.dn_property.proofs.WritingLemmas.{head_written}
use Rattle.dn_property.proofs.stored.push_head.Goals as goal

pub returns : goal.returns
returns c =
    head_written c.args.bytes.now c.push_u32.new.bytes c.push_u32-2.new.bytes c.push_u32-3.new.bytes c.push_u32-4.new.bytes c.push_u32-5.new.bytes
    (head_of c.args.item.now) (c.in_ok-push_u32.ensures ∙ ap (λ count. c.args.bytes.now ++ four_little count) c.len.ensures)
    c.in_ok-push_u32-2.ensures c.in_ok-push_u32-3.ensures c.in_ok-push_u32-4.ensures c.in_ok-push_u32-5.ensures
