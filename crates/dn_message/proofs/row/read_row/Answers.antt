use Rattle.std.proofs.Common.{ℕ}
use Rattle.std.proofs.lemmas.Result.{err_from_is_err_and}
use Rattle.dn_rdata.specs.Laid.{Laid}
use Rattle.dn_message.specs.declared.rr.Rr.{Rr}
use Rattle.dn_message.specs.Record.{IsRr, typed_data}
use Rattle.dn_message.proofs.EntryLemmas.{refused}
use Rattle.dn_message.proofs.RecordLemmas.{cut_data, no_data, no_head, row_found}
use Rattle.dn_message.proofs.row.read_row.Goals as goal

pub returns-in_err-head-clause-exact : goal.returns-in_err-head-clause-exact
returns-in_err-head-clause-exact c =
    let p = err_from_is_err_and c.from_residual.result c.from_residual.ensures.1 in
    rw (p.1, p.2) (no_head typed_data c.args.bytes.now c.args.at c.in_err-head.ensures.exact)

pub returns-in_err-next-clause-exact : goal.returns-in_err-next-clause-exact
returns-in_err-next-clause-exact c =
    let p = err_from_is_err_and c.from_residual-in_err-next.result c.from_residual-in_err-next.ensures.1 in
    let read = c.in_ok-head.ensures.exact in
    rw (p.1, p.2) (cut_data typed_data c.args.bytes.now c.args.at c.in_ok-head.head c.in_ok-head.place read.0 read.1 c.in_ok-head.ensures.within c.in_err-next.ensures.cut)

pub returns-in_err-rdata-clause-exact : goal.returns-in_err-rdata-clause-exact
returns-in_err-rdata-clause-exact c =
    let message = c.args.bytes.now in
    let at = c.args.at in
    let head = c.in_ok-head.head in
    let place = c.in_ok-head.place in
    let read = c.in_ok-head.ensures.exact in
    let p = err_from_is_err_and c.from_residual-in_err-rdata.result c.from_residual-in_err-rdata.ensures.1 in
    rw (p.1, p.2) (refused (Laid message place c.in_ok-next.next c.typed_data.result.now) (λ (found : Rr × ℕ). IsRr typed_data message at found.0 found.1)
    c.in_err-rdata.field-0.0 c.in_err-rdata.ensures
    (no_data typed_data message at head place read.0 read.1 c.typed_data.result.now c.typed_data.ensures c.in_ok-next.next c.in_ok-next.ensures.found))

pub returns-clause-exact : goal.returns-clause-exact
returns-clause-exact c =
    let read = c.in_ok-head.ensures.exact in
    let data_read = c.in_ok-rdata.ensures in
    row_found typed_data c.args.bytes.now c.args.at c.in_ok-head.head c.in_ok-head.place read.0 read.1 c.typed_data.result.now c.typed_data.ensures
    c.in_ok-next.next c.in_ok-next.ensures.found c.in_ok-rdata.rdata data_read.0 data_read.1
