use Rattle.std.proofs.lemmas.Result.{err_from_is_err_and}
use Rattle.dn_message.proofs.GrowingLemmas.{no_parts, parts_then}
use Rattle.dn_message.proofs.rdata.+add_parts.Goals as goal

pub returns-in_err-next-in-Some : goal.returns-in_err-next-in-Some
returns-in_err-next-in-Some t c =
    let p = err_from_is_err_and c.from_residual.result c.from_residual.ensures.1 in
    rw (p.1, p.2) (no_parts c.args.bytes.now c.args.at c.args.end c.in-Some.part.now c.in-Some.parts.now c.args.parts.now c.in-Some.ensures.cases.0
    c.args.out.now c.add_part.new.out c.add_part.new.out c.in_err-next-in-Some.field-0.0 c.in_err-next-in-Some.ensures.grows)

pub returns-in_ok-next-in-Some : goal.returns-in_ok-next-in-Some
returns-in_ok-next-in-Some t c =
    let read = c.in_ok-next-in-Some.ensures.grows in
    parts_then c.args.bytes.now c.args.at c.args.end c.in-Some.part.now c.in-Some.parts.now c.args.parts.now c.in-Some.ensures.cases.0
    c.args.out.now c.add_part.new.out c.add_parts.new.out read.0 c.in_ok-next-in-Some.next read.1 read.2 read.3 c.add_parts.result c.add_parts.ensures
