use Rattle.std.proofs.Common.{arith, refl}
use Rattle.dn_rdata.specs.Types.{IN}
use Rattle.dn_message.specs.declared.rr.Rr.{Rr}
use Rattle.dn_message.specs.Writer.{IsRow}
use Rattle.dn_message.proofs.PieceLemmas.{row_size}
use Rattle.dn_message.proofs.WriterLemmas.{keeps_on, row_accepted, row_refused}
use Rattle.dn_message.proofs.writer.ReplyWriter.row.Goals as goal

pub returns-then-row_len-room-clause-accepts : goal.returns-then-row_len-room-clause-accepts
returns-then-row_len-room-clause-accepts c =
    let row : Rr = record { name = c.args.owner.now; rtype = c.args.rtype; rclass = IN; ttl = c.args.ttl; rdata = c.args.rdata.now } in
    λ reply holds.
    row_refused c.args.self.now reply holds c.args.section row c.requires.order (omega (arith, c.if-row_len-room.true, c.room.ensures, c.row_len.ensures.len c.args.rtype IN c.args.ttl))

pub put_row-self-requires-clause-room : goal.put_row-self-requires-clause-room
put_row-self-requires-clause-room c =
    let row : Rr = record { name = c.args.owner.now; rtype = c.args.rtype; rclass = IN; ttl = c.args.ttl; rdata = c.args.rdata.now } in
    omega (arith, c.if-row_len-room.false, c.room.ensures, c.row_len.ensures.len c.args.rtype IN c.args.ttl, row_size row)

pub returns-clause-accepts : goal.returns-clause-accepts
returns-clause-accepts c =
    let row : Rr = record { name = c.args.owner.now; rtype = c.args.rtype; rclass = IN; ttl = c.args.ttl; rdata = c.args.rdata.now } in
    let is : IsRow row = record { named = c.row_len.ensures.named; class_is = refl; data_is = c.requires.valid; len = c.requires.len } in
    λ reply holds. row_accepted c.args.self.now reply holds c.args.section row c.requires.order _ is refl c.one_more-self.ensures c.put_row-self.ensures.appends

pub returns-clause-keeps : goal.returns-clause-keeps
returns-clause-keeps c = keeps_on c.args.self.now _ _ c.put_row-self.ensures.appends
