use Rattle.std.proofs.Common.{refl}
use Rattle.dn_rdata.proofs.CallerLemmas.{start_data}
use Rattle.dn_zone.specs.Creation.{first_numbers}
use Rattle.dn_zone.proofs.creation.start_record.Goals as goal

pub make-requires : goal.make-requires
unfolding first_numbers
make-requires c =
    rw (c.as_slice.ensures, c.in_ok-extend.ensures.ok, c.in_ok-push_wire-2.ensures.bytes, c.in_ok-push_wire.ensures.bytes, c.new-rdata.ensures)
    (start_data c.args.host.now c.args.mailbox.now first_numbers c.in_ok-push_wire.ensures.named c.in_ok-push_wire-2.ensures.named refl)
