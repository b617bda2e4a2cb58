use Rattle.std.proofs.Common.{arith, ap, length, refl}
use Rattle.dn_message.proofs.WritingLemmas.{query_size, wire_size, with_opt, without_opt}
use Rattle.dn_message.proofs.writing.put_query.Goals as goal

pub put-at-requires : goal.put-at-requires
put-at-requires c = omega (arith, c.requires, query_size c.args.query.now _ refl, ap length c.bytes_of_header.ensures)

pub put_name-at-requires : goal.put_name-at-requires
put_name-at-requires c = omega (arith, c.requires, query_size c.args.query.now _ refl, ap length c.bytes_of_header.ensures, c.put-at.ensures.appends.next_is, c.put-at.ensures.len)

pub put-at-requires-2 : goal.put-at-requires-2
put-at-requires-2 c = omega (arith, c.requires, query_size c.args.query.now _ refl, ap length c.bytes_of_header.ensures, c.put-at.ensures.appends.next_is, c.put-at.ensures.len, c.put_name-at.ensures.appends.next_is, c.put_name-at.ensures.len, wire_size c.args.query.now.name, ap length c.bytes_of_kind.ensures)

pub put-requires : goal.put-requires
put-requires c =
    omega (arith, c.requires, query_size c.args.query.now _ c.in-Some.is, ap length c.bytes_of_header.ensures, c.put-at.ensures.appends.next_is, c.put-at.ensures.len, c.put_name-at.ensures.appends.next_is, c.put_name-at.ensures.len, wire_size c.args.query.now.name, ap length c.bytes_of_kind.ensures, c.put-at-2.ensures.appends.next_is, c.put-at-2.ensures.len, ap length c.bytes_of_opt.ensures.bytes)

pub returns-in-Some-clause-appends : goal.returns-in-Some-clause-appends
returns-in-Some-clause-appends c =
    with_opt c.args.query.now c.args.out.now c.put-at.new.out c.put_name-at.new.out c.put-at-2.new.out c.put-at.result c.put_name-at.result c.put-at-2.result
    c.bytes_of_header.result c.bytes_of_kind.result c.bytes_of_header.ensures c.bytes_of_kind.ensures c.put-at.ensures.appends c.put_name-at.ensures.appends c.put-at-2.ensures.appends
    c.in-Some.opt c.put.new.out c.put.result c.bytes_of_opt.result c.in-Some.is c.bytes_of_opt.ensures.bytes c.put.ensures.appends

pub returns-in-None-clause-appends : goal.returns-in-None-clause-appends
returns-in-None-clause-appends c =
    without_opt c.args.query.now c.args.out.now c.put-at.new.out c.put_name-at.new.out c.put-at-2.new.out c.put-at.result c.put_name-at.result c.put-at-2.result
    c.bytes_of_header.result c.bytes_of_kind.result c.bytes_of_header.ensures c.bytes_of_kind.ensures c.put-at.ensures.appends c.put_name-at.ensures.appends c.put-at-2.ensures.appends
    c.in-None.is
