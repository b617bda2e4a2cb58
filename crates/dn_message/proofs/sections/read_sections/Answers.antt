use Rattle.std.proofs.Common.{ℕ, List, arith}
use Rattle.std.proofs.lemmas.Result.{err_from_is_err_and}
use Rattle.dn_message.specs.declared.reply.Question.{Question}
use Rattle.dn_message.specs.declared.rr.Rr.{Rr}
use Rattle.dn_message.specs.Record.{IsRr, typed_data}
use Rattle.dn_message.specs.Reply.{IsQuestion}
use Rattle.dn_message.specs.ReplyReading.{AreEntries, AreSections}
use Rattle.dn_message.proofs.EntryLemmas.{refused}
use Rattle.dn_message.proofs.SectionLemmas.{no_additional, no_answer, no_authority, no_end, no_questions, sections_found}
use Rattle.dn_message.proofs.sections.read_sections.Goals as goal

pub returns-in_err-questions : goal.returns-in_err-questions
returns-in_err-questions c =
    let p = err_from_is_err_and c.from_residual.result c.from_residual.ensures.1 in
    rw (p.1, p.2) (refused (λ (found : List Question × ℕ). AreEntries (IsQuestion c.args.bytes.now) c.args.counts.questions 12 found.0 found.1) (AreSections c.args.bytes.now c.args.counts)
    c.in_err-questions.field-0.0 c.in_err-questions.ensures.exact
    (no_questions c.args.bytes.now c.args.counts))

pub returns-in_err-answer : goal.returns-in_err-answer
returns-in_err-answer c =
    let p = err_from_is_err_and c.from_residual-in_err-answer.result c.from_residual-in_err-answer.ensures.1 in
    let questions = c.in_ok-questions.ensures.exact in
    rw (p.1, p.2) (refused (λ (found : List Rr × ℕ). AreEntries (IsRr typed_data c.args.bytes.now) c.args.counts.answer c.in_ok-questions.place found.0 found.1) (AreSections c.args.bytes.now c.args.counts)
    c.in_err-answer.field-0.0 c.in_err-answer.ensures.exact
    (no_answer c.args.bytes.now c.args.counts
    c.in_ok-questions.questions c.in_ok-questions.place questions.0 questions.1))

pub returns-in_err-authority : goal.returns-in_err-authority
returns-in_err-authority c =
    let p = err_from_is_err_and c.from_residual-in_err-authority.result c.from_residual-in_err-authority.ensures.1 in
    let questions = c.in_ok-questions.ensures.exact in
    let answer = c.in_ok-answer.ensures.exact in
    rw (p.1, p.2) (refused (λ (found : List Rr × ℕ). AreEntries (IsRr typed_data c.args.bytes.now) c.args.counts.authority c.in_ok-answer.place found.0 found.1) (AreSections c.args.bytes.now c.args.counts)
    c.in_err-authority.field-0.0 c.in_err-authority.ensures.exact
    (no_authority c.args.bytes.now c.args.counts
    c.in_ok-questions.questions c.in_ok-questions.place questions.0 questions.1
    c.in_ok-answer.answer c.in_ok-answer.place answer.0 answer.1))

pub returns-in_err-additional : goal.returns-in_err-additional
returns-in_err-additional c =
    let p = err_from_is_err_and c.from_residual-in_err-additional.result c.from_residual-in_err-additional.ensures.1 in
    let questions = c.in_ok-questions.ensures.exact in
    let answer = c.in_ok-answer.ensures.exact in
    let authority = c.in_ok-authority.ensures.exact in
    rw (p.1, p.2) (refused (λ (found : List Rr × ℕ). AreEntries (IsRr typed_data c.args.bytes.now) c.args.counts.additional c.in_ok-authority.place found.0 found.1) (AreSections c.args.bytes.now c.args.counts)
    c.in_err-additional.field-0.0 c.in_err-additional.ensures.exact
    (no_additional c.args.bytes.now c.args.counts
    c.in_ok-questions.questions c.in_ok-questions.place questions.0 questions.1
    c.in_ok-answer.answer c.in_ok-answer.place answer.0 answer.1
    c.in_ok-authority.authority c.in_ok-authority.place authority.0 authority.1))

pub returns-then-place-bytes : goal.returns-then-place-bytes
returns-then-place-bytes c =
    let questions = c.in_ok-questions.ensures.exact in
    let answer = c.in_ok-answer.ensures.exact in
    let authority = c.in_ok-authority.ensures.exact in
    let additional = c.in_ok-additional.ensures.exact in
    no_end c.args.bytes.now c.args.counts
    c.in_ok-questions.questions c.in_ok-questions.place questions.0 questions.1
    c.in_ok-answer.answer c.in_ok-answer.place answer.0 answer.1
    c.in_ok-authority.authority c.in_ok-authority.place authority.0 authority.1
    c.in_ok-additional.additional c.in_ok-additional.place additional.0 additional.1
    (omega arith)

pub returns : goal.returns
returns c =
    let questions = c.in_ok-questions.ensures.exact in
    let answer = c.in_ok-answer.ensures.exact in
    let authority = c.in_ok-authority.ensures.exact in
    let additional = c.in_ok-additional.ensures.exact in
    sections_found c.args.bytes.now c.args.counts
    c.in_ok-questions.questions c.in_ok-questions.place questions.0 questions.1
    c.in_ok-answer.answer c.in_ok-answer.place answer.0 answer.1
    c.in_ok-authority.authority c.in_ok-authority.place authority.0 authority.1
    c.in_ok-additional.additional c.in_ok-additional.place additional.0 additional.1
    (omega (arith, c.in_ok-additional.ensures.within))
