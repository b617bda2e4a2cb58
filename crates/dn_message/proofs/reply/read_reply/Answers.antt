use Rattle.std.proofs.lemmas.Result.{err_from_is_err_and}
use Rattle.dn_message.specs.Reply.{IsReply}
use Rattle.dn_message.specs.ReplyReading.{AreSections}
use Rattle.dn_message.proofs.EntryLemmas.{refused}
use Rattle.dn_message.proofs.ReplyLemmas.{no_header, no_sections, reply_found}
use Rattle.dn_message.proofs.reply.read_reply.Goals as goal

pub returns-in_err-header : goal.returns-in_err-header
returns-in_err-header c =
    let p = err_from_is_err_and c.from_residual.result c.from_residual.ensures.1 in
    record { exact = rw (p.1, p.2) (no_header c.args.bytes.now c.in_err-header.ensures.exact) }

pub returns-in_err-questions : goal.returns-in_err-questions
returns-in_err-questions c =
    let p = err_from_is_err_and c.from_residual-in_err-questions.result c.from_residual-in_err-questions.ensures.1 in
    let header = c.in_ok-header.ensures.exact in
    record {
      exact = rw (p.1, p.2) (refused (AreSections c.args.bytes.now c.in_ok-header.header.counts) (IsReply c.args.bytes.now) c.in_err-questions.field-0.0 c.in_err-questions.ensures
          (no_sections c.args.bytes.now c.in_ok-header.header header.0 header.1));
    }

pub returns : goal.returns
returns c =
    let header = c.in_ok-header.ensures.exact in
    let sections = c.in_ok-questions.ensures in
    record { exact = reply_found c.args.bytes.now c.in_ok-header.header header.0 header.1 c.in_ok-questions.field-0 sections.0 sections.1 }
