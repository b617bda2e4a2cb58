use Rattle.dn_rdata.proofs.CallerLemmas.{server_data}
use Rattle.dn_zone.proofs.creation.server_record.Goals as goal

pub make-requires : goal.make-requires
make-requires c = rw (c.as_slice.ensures, c.in_ok-push_wire.ensures.bytes, c.new-rdata.ensures) (server_data c.args.host.now c.in_ok-push_wire.ensures.named)
