use Rattle.std.proofs.Common.{arith}
use Rattle.dn_message.proofs.PieceLemmas.{row_size}
use Rattle.dn_message.proofs.pieces.row_len.Goals as goal

pub returns-clause-len : goal.returns-clause-len
returns-clause-len c =
    λ rtype rclass ttl.
    omega (arith, c.wire_len.ensures.len, row_size (record { name = c.args.owner.now; rtype = rtype; rclass = rclass; ttl = ttl; rdata = c.args.rdata.now }))
