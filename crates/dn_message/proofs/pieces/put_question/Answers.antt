use Rattle.std.proofs.Common.{arith, ap, length}
use Rattle.dn_rdata.specs.Types.{IN}
use Rattle.dn_message.specs.declared.reply.Question.{Question}
use Rattle.dn_message.proofs.PieceLemmas.{question_size, question_written}
use Rattle.dn_message.proofs.WritingLemmas.{wire_size}
use Rattle.dn_message.proofs.pieces.put_question.Goals as goal

pub put_name-at-requires : goal.put_name-at-requires
put_name-at-requires c = omega (arith, c.requires, question_size (record { name = c.args.name.now; qtype = c.args.qtype; qclass = IN }))

pub put-requires : goal.put-requires
put-requires c =
    let question : Question = record { name = c.args.name.now; qtype = c.args.qtype; qclass = IN } in
    omega (arith, c.requires, question_size question, wire_size question.name, ap length c.bytes_of_kind.ensures, c.put_name-at.ensures.appends.next_is, c.put_name-at.ensures.len)

pub returns-clause-appends : goal.returns-clause-appends
returns-clause-appends c =
    question_written (record { name = c.args.name.now; qtype = c.args.qtype; qclass = IN }) c.args.at c.put_name-at.result c.put.result c.args.out.now c.put_name-at.new.out c.put.new.out
    c.bytes_of_kind.result c.bytes_of_kind.ensures c.put_name-at.ensures.appends c.put.ensures.appends
