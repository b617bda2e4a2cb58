use Rattle.std.proofs.Common.{arith}
use Rattle.dn_rdata.proofs.CallerLemmas.{stored_sized}
use Rattle.dn_record.proofs.WriteLemmas.{written}
use Rattle.dn_record.proofs.write.write_record.Goals as goal

pub returns : goal.returns
returns c =
    let item = c.args.item.now in
    let data_is = rw c.as_slice.ensures at c.in-Some.ensures.found in
    let front = rw c.new-out.ensures at c.in_ok-add_header.ensures in
    written item _ _ _ _ front c.in_ok-add_stored-in-Some.ensures data_is (omega (arith, c.requires.len, c.stored_len.ensures, stored_sized item.rtype _ item.rdata data_is))
