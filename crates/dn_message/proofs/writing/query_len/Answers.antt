use Rattle.std.proofs.Common.{arith}
use Rattle.dn_message.proofs.WritingLemmas.{query_size}
use Rattle.dn_message.proofs.writing.query_len.Goals as goal

pub returns-in-Some-clause-len : goal.returns-in-Some-clause-len
returns-in-Some-clause-len c = omega (arith, c.wire_len-len.ensures.len, query_size c.args.query.now _ c.in-Some.is)

pub returns-in-None-clause-len : goal.returns-in-None-clause-len
returns-in-None-clause-len c = omega (arith, c.wire_len-len.ensures.len, query_size c.args.query.now _ c.in-None.is)
