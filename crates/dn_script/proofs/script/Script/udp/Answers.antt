use Rattle.std.proofs.Common.{arith, refl, subst, sym, ◌∙◌}
use Rattle.dn_answer.specs.Datagram.{IsRepliable}
use Rattle.dn_world.proofs.CallerLemmas.{datagram_repliable}
use Rattle.dn_script.proofs.AskLemmas.{udp_done, udp_missing, udp_wanting}
use Rattle.dn_script.proofs.script.Script.udp.Goals as goal

pub returns-then-at-len : goal.returns-then-at-len
returns-then-at-len c = udp_missing c.args.self.now c.args.replica.now c.in_ok-at.at c.in_ok-at.ensures c.args.bytes.now (omega (arith, c.if-at-len.true, rw c.replicas.ensures at c.len.ensures))

pub returns-then-wants_more : goal.returns-then-wants_more
returns-then-wants_more c =
    udp_wanting c.args.self.now c.args.replica.now c.in_ok-at.at c.in_ok-at.ensures c.args.bytes.now (omega (arith, c.if-at-len.false, rw c.replicas.ensures at c.len.ensures))
    (rw c.received-received.ensures at (sym c.wants_more.ensures ∙ c.if-wants_more.true))

pub write_reply-requires-clause-repliable : goal.write_reply-requires-clause-repliable
write_reply-requires-clause-repliable c =
    subst (IsRepliable c.args.bytes.now) (sym c.received-received.ensures) (datagram_repliable c.args.self.now.world c.requires c.in_ok-at.at c.args.bytes.now)

pub returns : goal.returns
returns c =
    udp_done c.args.self.now c.args.replica.now c.in_ok-at.at c.in_ok-at.ensures c.args.bytes.now (omega (arith, c.if-at-len.false, rw c.replicas.ensures at c.len.ensures))
    (rw c.received-received.ensures at (sym c.wants_more.ensures ∙ c.if-wants_more.false)) c.args.self.now.world refl c.split_at.result.0.now c.in_ok-datagram_line.field-0
    (c.split_at.ensures.front ∙ rw c.received-received.ensures at c.in_ok-len.ensures.bytes) c.in_ok-datagram_line.ensures
