use Rattle.std.proofs.lemmas.Result.{err_from_is_err_and}
use Rattle.dn_message.proofs.QuestionLemmas.{no_kind, question_found}
use Rattle.dn_message.proofs.questions.read_question.Goals as goal

pub returns-in_err-name-clause-exact : goal.returns-in_err-name-clause-exact
returns-in_err-name-clause-exact c =
    let p = err_from_is_err_and c.from_residual.result c.from_residual.ensures.1 in
    rw p.1 (λ other is. c.in_err-name.ensures.exact (other.0.name, is.behind) is.name_spelled)

pub returns-in_err-qtype-clause-exact : goal.returns-in_err-qtype-clause-exact
returns-in_err-qtype-clause-exact c =
    let p = err_from_is_err_and c.from_residual-in_err-qtype.result c.from_residual-in_err-qtype.ensures.1 in
    let name = c.in_ok-name.ensures.exact in
    rw p.1 (no_kind c.args.bytes.now c.args.at c.in_ok-name.name c.in_ok-name.behind name.0 name.1 c.in_err-qtype.ensures.exact)

pub returns-clause-exact : goal.returns-clause-exact
returns-clause-exact c =
    let name = c.in_ok-name.ensures.exact in
    let kind = c.in_ok-qtype.ensures.exact in
    question_found c.args.bytes.now c.args.at c.in_ok-name.name c.in_ok-name.behind name.0 name.1 (c.in_ok-qtype.qtype, c.in_ok-qtype.qclass) kind.0 kind.1

pub returns-in_err-name-clause-fault : goal.returns-in_err-name-clause-fault
returns-in_err-name-clause-fault c =
    let p = err_from_is_err_and c.from_residual.result c.from_residual.ensures.1 in
    rw (p.1, p.2) (λ none. c.in_err-name.ensures.fault)

pub returns-in_err-qtype-clause-fault : goal.returns-in_err-qtype-clause-fault
returns-in_err-qtype-clause-fault c =
    let p = err_from_is_err_and c.from_residual-in_err-qtype.result c.from_residual-in_err-qtype.ensures.1 in
    rw p.1 (λ none. absurd (none (c.in_ok-name.name, c.in_ok-name.behind) c.in_ok-name.ensures.exact.0))
