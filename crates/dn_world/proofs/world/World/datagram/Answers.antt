use Rattle.std.proofs.Common.{subst, sym}
use Rattle.dn_answer.specs.Datagram.{IsRepliable}
use Rattle.dn_world.proofs.ViewLemmas.{datagram_repliable}
use Rattle.dn_world.proofs.world.World.datagram.Goals as goal

pub write_reply-requires-clause-repliable : goal.write_reply-requires-clause-repliable
write_reply-requires-clause-repliable c =
    subst (IsRepliable c.args.bytes.now) (sym c.received-received.ensures) (datagram_repliable c.args.self.now c.requires.valid c.args.at c.args.bytes.now)
