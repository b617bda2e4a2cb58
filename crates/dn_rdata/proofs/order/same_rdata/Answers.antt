use Rattle.dn_rdata.specs.Record.{folded}
use Rattle.dn_rdata.proofs.RowOrderLemmas.{same_means, same_tested}
use Rattle.dn_rdata.proofs.order.same_rdata.Goals as goal

pub returns-clause-exact : goal.returns-clause-exact
returns-clause-exact c =
    same_tested (folded c.args.rtype c.args.left.now) (folded c.args.rtype c.args.right.now) c.compare_data.result c.is_eq.result c.is_eq.ensures c.compare_data.ensures

pub returns-clause-meaning : goal.returns-clause-meaning
returns-clause-meaning c =
    same_means (folded c.args.rtype c.args.left.now) (folded c.args.rtype c.args.right.now) c.compare_data.result c.is_eq.result c.is_eq.ensures c.compare_data.ensures
