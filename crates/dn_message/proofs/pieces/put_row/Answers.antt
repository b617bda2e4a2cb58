use Rattle.std.proofs.Common.{arith, ap, length}
use Rattle.dn_rdata.specs.Types.{IN}
use Rattle.dn_message.specs.declared.rr.Rr.{Rr}
use Rattle.dn_message.proofs.PieceLemmas.{row_size, row_written}
use Rattle.dn_message.proofs.WritingLemmas.{wire_size}
use Rattle.dn_message.proofs.pieces.put_row.Goals as goal

pub put_name-at-requires : goal.put_name-at-requires
put_name-at-requires c =
    let row : Rr = record { name = c.args.owner.now; rtype = c.args.rtype; rclass = IN; ttl = c.args.ttl; rdata = c.args.rdata.now } in
    omega (arith, c.requires.room, row_size row)

pub put-at-requires : goal.put-at-requires
put-at-requires c =
    let row : Rr = record { name = c.args.owner.now; rtype = c.args.rtype; rclass = IN; ttl = c.args.ttl; rdata = c.args.rdata.now } in
    omega (arith, c.requires.room, row_size row, wire_size row.name, ap length c.bytes_of_fields.ensures, c.put_name-at.ensures.appends.next_is, c.put_name-at.ensures.len)

pub put-requires : goal.put-requires
put-requires c =
    let row : Rr = record { name = c.args.owner.now; rtype = c.args.rtype; rclass = IN; ttl = c.args.ttl; rdata = c.args.rdata.now } in
    omega (arith, c.requires.room, row_size row, wire_size row.name, ap length c.bytes_of_fields.ensures, c.put_name-at.ensures.appends.next_is, c.put_name-at.ensures.len, c.put-at.ensures.appends.next_is, c.put-at.ensures.len)

pub returns-clause-appends : goal.returns-clause-appends
returns-clause-appends c =
    let row : Rr = record { name = c.args.owner.now; rtype = c.args.rtype; rclass = IN; ttl = c.args.ttl; rdata = c.args.rdata.now } in
    row_written row c.args.at c.put_name-at.result c.put-at.result c.put.result c.args.out.now c.put_name-at.new.out c.put-at.new.out c.put.new.out
    c.bytes_of_fields.result c.bytes_of_fields.ensures c.put_name-at.ensures.appends c.put-at.ensures.appends c.put.ensures.appends
