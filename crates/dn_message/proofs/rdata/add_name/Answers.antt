use Rattle.dn_message.proofs.GrowingLemmas.{name_of}
use Rattle.dn_message.proofs.rdata.add_name.Goals as goal

pub returns-in_ok-push_wire-in-Ok-clause-grows : goal.returns-in_ok-push_wire-in-Ok-clause-grows
returns-in_ok-push_wire-in-Ok-clause-grows c = λ end.
    let read = c.in-Ok.ensures.exact in
    name_of c.args.bytes.now c.args.at end _ _ c.args.out.now c.push_wire.new.out read.0 read.1 c.in_ok-push_wire-in-Ok.ensures.bytes

pub returns-in-Err-clause-grows : goal.returns-in-Err-clause-grows
returns-in-Err-clause-grows c = λ end other lies. c.in-Err.ensures.exact (lies.0, other.1) lies.1
