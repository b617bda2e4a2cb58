use Rattle.std.proofs.Common.{arith}
use Rattle.dn_zone.proofs.SentLemmas.{run_taken}
use Rattle.dn_zone.proofs.changes.run_of.Goals as goal

pub invariant_of-result : goal.invariant_of-result
invariant_of-result c =
    run_taken c.min-from.result 64000 c.args.table.now.1 c.args.table.now.0 c.as_slice.result.now c.in_ok-run.run' c.in_ok-units.units (omega arith)
    c.in_ok-units.ensures c.as_slice.ensures c.in_ok-run.ensures.run c.in_ok-run.ensures.differ c.in_ok-run.ensures.fit
