use Rattle.std.proofs.Common.{rules}
use Rattle.dn_store.proofs.TakenLemmas.{taken_step}
use Rattle.dn_store.proofs.writing.take_writes.Goals as goal

pub loop-write-preserved : goal.loop-write-preserved
loop-write-preserved c = record {
  counted = search rules;
  rest =
      taken_step _ _ c.args.batch.now c.loop-write.number c.loop-write.write-index c.in_ok-unit.unit c.write-item.result _ c.in_ok-drafts.ensures.placed c.in_ok-unit.ensures
      c.write-item.is c.loop-write-test.true c.loop-write.invariant.rest;
  kept = c.in_ok-drafts.ensures.kept;
}
