use Rattle.std.proofs.Common.{arith}
use Rattle.dn_message.specs.Pieces.{begun}
use Rattle.dn_answer.proofs.WrittenLemmas.{question_fits}
use Rattle.dn_answer.proofs.writing.begin_answer.Goals as goal

pub unreachable-requires : goal.unreachable-requires
unreachable-requires c =
    question_fits c.args.query.now c.args.reply.now c.requires.sendable c.question.new.self
    (omega (arith, c.begin-writer.ensures.size, c.in-Err.ensures.size, c.requires.room)) c.requires.class
    (c.in-Err.ensures.accepts (begun _) c.begin-writer.ensures.holds).1
