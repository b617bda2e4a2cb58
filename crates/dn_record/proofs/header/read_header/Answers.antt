use Rattle.std.proofs.Common.{rules}
use Rattle.std.proofs.lemmas.Result.{err_from_is_err_and}
use Rattle.dn_record.specs.FirstFault.FirstFault.{CutHeader}
use Rattle.dn_record.proofs.FaultLemmas.{faulty}
use Rattle.dn_record.proofs.header.read_header.Goals as goal

pub returns-in_err-check_kind-in-Some-clause-fault : goal.returns-in_err-check_kind-in-Some-clause-fault
returns-in_err-check_kind-in-Some-clause-fault c =
    let p = err_from_is_err_and c.from_residual.result c.from_residual.ensures.1 in
    rw (p.1, p.2) (faulty c.args.bytes.now _
    (c.in_err-check_kind-in-Some.ensures.fault c.args.bytes.now c.in-Some.stored.now c.in-Some.numbers c.in-Some.ensures.found (search rules)))

pub returns-in-None-clause-fault : goal.returns-in-None-clause-fault
returns-in-None-clause-fault c = faulty c.args.bytes.now _ (CutHeader c.in-None.ensures.none)
