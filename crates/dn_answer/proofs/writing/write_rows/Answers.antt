use Rattle.dn_answer.proofs.WrittenLemmas.{data_here, goes_first, goes_last, goes_next, len_here, order_here, room_here}
use Rattle.dn_answer.proofs.writing.write_rows.Goals as goal

pub loop-row-init : goal.loop-row-init
loop-row-init c = goes_first c.args.writer.now c.args.section c.args.rows.now c.requires

pub row-requires-clause-order : goal.row-requires-clause-order
row-requires-clause-order c =
    order_here c.args.writer.now c.args.section c.args.rows.now c.loop-row.row-index c.loop-row.writer c.loop-row.invariant c.row-item.result c.row-item.is c.loop-row-test.true
    c.as_slice.result.now c.as_slice.ensures

pub row-requires-clause-valid : goal.row-requires-clause-valid
row-requires-clause-valid c =
    data_here c.args.writer.now c.args.section c.args.rows.now c.loop-row.row-index c.loop-row.writer c.loop-row.invariant c.row-item.result c.row-item.is c.loop-row-test.true
    c.as_slice.result.now c.as_slice.ensures

pub row-requires-clause-len : goal.row-requires-clause-len
row-requires-clause-len c =
    len_here c.args.writer.now c.args.section c.args.rows.now c.loop-row.row-index c.loop-row.writer c.loop-row.invariant c.row-item.result c.row-item.is c.loop-row-test.true
    c.as_slice.result.now c.as_slice.ensures

pub unreachable-requires : goal.unreachable-requires
unreachable-requires c =
    room_here c.args.writer.now c.args.section c.args.rows.now c.loop-row.row-index c.loop-row.writer c.loop-row.invariant c.row-item.result c.row-item.is c.loop-row-test.true
    c.as_slice.result.now c.as_slice.ensures c.row.new.self c.in-Err.ensures.size c.in-Err.field-0 c.in-Err.ensures.accepts

pub loop-row-preserved : goal.loop-row-preserved
loop-row-preserved c =
    goes_next c.args.writer.now c.args.section c.args.rows.now c.loop-row.row-index c.loop-row.writer c.loop-row.invariant c.row-item.result c.row-item.is c.loop-row-test.true
    c.as_slice.result.now c.as_slice.ensures c.row.new.self c.in-Ok.ensures.size c.in-Ok.field-0 c.in-Ok.ensures.same_reference c.in-Ok.ensures.keeps c.in-Ok.ensures.accepts

pub returns-clause-writes : goal.returns-clause-writes
returns-clause-writes c =
    goes_last c.args.writer.now c.args.section c.args.rows.now c.loop-row.row-index c.loop-row.writer c.loop-row-test.false c.loop-row.invariant
