use Rattle.std.proofs.Common.{arith, refl}
use Rattle.dn_rdata.specs.Types.{IN}
use Rattle.dn_message.specs.declared.reply.Question.{Question}
use Rattle.dn_message.proofs.PieceLemmas.{question_size}
use Rattle.dn_message.proofs.WriterLemmas.{keeps_on, question_accepted, question_refused}
use Rattle.dn_message.proofs.writer.ReplyWriter.question.Goals as goal

pub returns-then-question_len-room-clause-accepts : goal.returns-then-question_len-room-clause-accepts
returns-then-question_len-room-clause-accepts c =
    let question : Question = record { name = c.args.name.now; qtype = c.args.qtype; qclass = IN } in
    λ reply holds.
    question_refused c.args.self.now reply holds question c.requires (omega (arith, c.if-question_len-room.true, c.room.ensures, c.question_len.ensures.len c.args.qtype IN))

pub put_question-self-requires : goal.put_question-self-requires
put_question-self-requires c =
    let question : Question = record { name = c.args.name.now; qtype = c.args.qtype; qclass = IN } in
    omega (arith, c.if-question_len-room.false, c.room.ensures, c.question_len.ensures.len c.args.qtype IN, question_size question)

pub returns-clause-accepts : goal.returns-clause-accepts
returns-clause-accepts c =
    let question : Question = record { name = c.args.name.now; qtype = c.args.qtype; qclass = IN } in
    λ reply holds. question_accepted c.args.self.now reply holds question c.requires _ c.question_len.ensures.named refl refl c.put_question-self.ensures.appends

pub returns-clause-keeps : goal.returns-clause-keeps
returns-clause-keeps c = keeps_on c.args.self.now _ _ c.put_question-self.ensures.appends
