use Rattle.std.proofs.Common.{◌≡◌, ℕ, ◌∙◌, List, ap, arith, drop, rules}
use Rattle.dn_message.specs.Writer.{Holds}
use Rattle.dn_answer.specs.Sendable.{sent}
use Rattle.dn_answer.proofs.WrittenLemmas.{additional_fits, all_held, answer_fits, answer_held, authority_fits, authority_held, sent_len}
use Rattle.dn_answer.proofs.writing.write_answer.Goals as goal

pub write_rows-requires : goal.write_rows-requires
write_rows-requires c =
    answer_fits c.args.query.now c.args.reply.now c.requires.sendable c.begin_answer-writer.result (omega (arith, c.begin_answer-writer.ensures.size, c.requires.room))
    c.as_slice.result.now c.as_slice.ensures c.begin_answer-writer.ensures.holds

pub write_rows-requires-2 : goal.write_rows-requires-2
write_rows-requires-2 c =
    authority_fits c.args.query.now c.args.reply.now c.requires.sendable c.write_rows.new.writer (omega (arith, c.begin_answer-writer.ensures.size, c.write_rows.ensures.size, c.requires.room))
    c.as_slice-2.result.now c.as_slice-2.ensures
    (answer_held c.args.query.now c.args.reply.now c.begin_answer-writer.result c.write_rows.new.writer c.as_slice.result.now c.as_slice.ensures c.begin_answer-writer.ensures.holds c.write_rows.ensures.writes)

pub write_rows-requires-3 : goal.write_rows-requires-3
write_rows-requires-3 c =
    additional_fits c.args.query.now c.args.reply.now c.requires.sendable c.write_rows-2.new.writer
    (omega (arith, c.begin_answer-writer.ensures.size, c.write_rows.ensures.size, c.write_rows-2.ensures.size, c.requires.room))
    c.as_slice-3.result.now c.as_slice-3.ensures
    (authority_held c.args.query.now c.args.reply.now c.begin_answer-writer.result c.write_rows.new.writer c.as_slice.result.now c.as_slice.ensures c.begin_answer-writer.ensures.holds c.write_rows.ensures.writes
    c.write_rows-2.new.writer c.as_slice-2.result.now c.as_slice-2.ensures c.write_rows-2.ensures.writes)

pub returns-clause-len : goal.returns-clause-len
returns-clause-len c =
    let held : Holds c.write_rows-3.new.writer (sent c.args.query.now c.args.reply.now) =
    all_held c.args.query.now c.args.reply.now c.begin_answer-writer.result c.write_rows.new.writer c.as_slice.result.now c.as_slice.ensures c.begin_answer-writer.ensures.holds c.write_rows.ensures.writes
    c.write_rows-2.new.writer c.as_slice-2.result.now c.as_slice-2.ensures c.write_rows-2.ensures.writes
    c.write_rows-3.new.writer c.as_slice-3.result.now c.as_slice-3.ensures c.write_rows-3.ensures.writes in
    sent_len c.args.query.now c.args.reply.now c.requires.sendable c.finish.result (c.finish.ensures.reads (sent c.args.query.now c.args.reply.now) held).1

-- the lent buffer's last bytes, and what the writer left in it, have two names
of_same : (len : ℕ) (lent left before : List ℕ) → lent ≡ left → drop len left ≡ drop len before → drop len lent ≡ drop len before
of_same len lent left before same rest = ap (drop len) same ∙ rest

pub returns-clause-rest : goal.returns-clause-rest
returns-clause-rest c =
    of_same c.finish.result _ c.finish.new.self.0 c.args.out.now (search rules)
    (c.finish.ensures.rest c.args.out.now
    (c.write_rows-3.ensures.keeps c.args.out.now
    (c.write_rows-2.ensures.keeps c.args.out.now (c.write_rows.ensures.keeps c.args.out.now c.begin_answer-writer.ensures.keeps))))
