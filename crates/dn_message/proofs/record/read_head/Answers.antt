use Rattle.std.proofs.Common.{sym, ap, length, ◌∙◌, arith}
use Rattle.std.proofs.lemmas.Result.{err_from_is_err_and}
use Rattle.dn_message.proofs.RecordLemmas.{head_found, no_fields}
use Rattle.dn_message.proofs.record.read_head.Goals as goal

pub returns-in_err-name-clause-exact : goal.returns-in_err-name-clause-exact
returns-in_err-name-clause-exact c =
    let p = err_from_is_err_and c.from_residual.result c.from_residual.ensures.1 in
    rw p.1 (λ other is. c.in_err-name.ensures.exact (other.0.name, is.behind) is.name_spelled)

pub returns-in-Some-clause-exact : goal.returns-in-Some-clause-exact
returns-in-Some-clause-exact c =
    let name = c.in_ok-name.ensures.exact in
    let read = c.in-Some.ensures.found in
    head_found c.args.bytes.now c.args.at c.in_ok-name.behind c.in_ok-name.name name.0 name.1 c.in-Some.head read.0.0 read.1 (sym c.split_at.ensures.back ∙ read.0.1)

pub returns-in-None-clause-exact : goal.returns-in-None-clause-exact
returns-in-None-clause-exact c =
    let name = c.in_ok-name.ensures.exact in
    no_fields c.args.bytes.now c.args.at c.in_ok-name.behind c.in_ok-name.name name.0 name.1 (omega (arith, c.in-None.ensures.none, ap length c.split_at.ensures.back))

pub returns-in_err-name-clause-fault : goal.returns-in_err-name-clause-fault
returns-in_err-name-clause-fault c =
    let p = err_from_is_err_and c.from_residual.result c.from_residual.ensures.1 in
    rw (p.1, p.2) (λ none. c.in_err-name.ensures.fault)

pub returns-in-None-clause-fault : goal.returns-in-None-clause-fault
returns-in-None-clause-fault c = λ none. absurd (none (c.in_ok-name.name, c.in_ok-name.behind) c.in_ok-name.ensures.exact.0)
