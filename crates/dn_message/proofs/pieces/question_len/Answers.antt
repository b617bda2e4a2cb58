use Rattle.std.proofs.Common.{arith}
use Rattle.dn_message.proofs.PieceLemmas.{question_size}
use Rattle.dn_message.proofs.pieces.question_len.Goals as goal

pub returns-clause-len : goal.returns-clause-len
returns-clause-len c = λ qtype qclass. omega (arith, c.wire_len.ensures.len, question_size (record { name = c.args.name.now; qtype = qtype; qclass = qclass }))
