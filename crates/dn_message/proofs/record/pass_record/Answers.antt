use Rattle.std.proofs.Common.{arith}
use Rattle.std.proofs.lemmas.Result.{err_from_is_err_and}
use Rattle.dn_message.specs.Record.{any_data}
use Rattle.dn_message.proofs.RecordLemmas.{cut_data, no_head, passes_one}
use Rattle.dn_message.proofs.record.pass_record.Goals as goal

pub returns-in_err-head-clause-passes : goal.returns-in_err-head-clause-passes
returns-in_err-head-clause-passes c =
    let p = err_from_is_err_and c.from_residual.result c.from_residual.ensures.1 in
    rw p.1 (no_head any_data c.args.bytes.now c.args.at c.in_err-head.ensures.exact)

pub returns-in_err-next-clause-passes : goal.returns-in_err-next-clause-passes
returns-in_err-next-clause-passes c =
    let p = err_from_is_err_and c.from_residual-in_err-next.result c.from_residual-in_err-next.ensures.1 in
    let read = c.in_ok-head.ensures.exact in
    rw p.1 (cut_data any_data c.args.bytes.now c.args.at c.in_ok-head.head c.in_ok-head.place read.0 read.1 c.in_ok-head.ensures.within c.in_err-next.ensures.cut)

pub returns-clause-passes : goal.returns-clause-passes
returns-clause-passes c =
    let read = c.in_ok-head.ensures.exact in
    passes_one c.args.bytes.now c.args.at c.in_ok-head.head c.in_ok-head.place read.0 read.1 _ c.in_ok-head.ensures.within
    (omega (arith, c.in_ok-next.ensures.within, c.in_ok-next.ensures.found)) c.in_ok-next.ensures.found

pub returns-in_err-head-clause-fault : goal.returns-in_err-head-clause-fault
returns-in_err-head-clause-fault c =
    let p = err_from_is_err_and c.from_residual.result c.from_residual.ensures.1 in
    rw (p.1, p.2) c.in_err-head.ensures.fault

pub returns-in_err-next-clause-fault : goal.returns-in_err-next-clause-fault
returns-in_err-next-clause-fault c =
    let p = err_from_is_err_and c.from_residual-in_err-next.result c.from_residual-in_err-next.ensures.1 in
    let head = c.in_ok-head.ensures.exact.0 in
    rw p.1 (λ none. absurd (none (c.in_ok-head.head.name, head.behind) head.name_spelled))
