use Rattle.std.proofs.lemmas.List.{drop_all}
use Rattle.dn_answer.proofs.GlueLemmas.{at_row, glue_ends, glue_on}
use Rattle.dn_answer.proofs.glue.glue.Goals as goal

pub loop-one-preserved : goal.loop-one-preserved
loop-one-preserved c =
    glue_on c.args.spelled.now c.args.rows.now c.args.apex.now _ c.loop-one.list _ c.loop-one.put _ _ _ _ (at_row c.args.named.now c.loop-one.one-index c.one-item.result c.one-item.is c.loop-one-test.true) c.in_ok-put_glue.ensures c.loop-one.invariant

pub returns : goal.returns
returns c =
    glue_ends c.args.spelled.now c.args.rows.now c.args.apex.now _ c.loop-one.list c.loop-one.put _ (drop_all c.loop-one.one-index c.args.named.now c.loop-one-test.false) c.loop-one.invariant
