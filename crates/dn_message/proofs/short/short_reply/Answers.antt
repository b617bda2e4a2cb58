use Rattle.std.proofs.Common.{◌≡◌, ◌∙◌, ap, arith, length, sym, take}
use Rattle.dn_message.proofs.ReadBackLemmas.{short_read}
use Rattle.dn_message.proofs.short.short_reply.Goals as goal

pub returns-clause-reads : goal.returns-clause-reads
returns-clause-reads c =
    let written = c.put.ensures.appends in
    let twelve : c.put.result ≡ 12 = omega (arith, written.next_is, ap length c.bytes_of_short_reply.ensures) in
    short_read (take 12 c.put.new.out) c.args.request.now c.args.rcode (ap (λ k. take k c.put.new.out) (sym twelve) ∙ written.front ∙ c.bytes_of_short_reply.ensures)
