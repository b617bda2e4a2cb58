use Rattle.dn_name.proofs.OrderLemmas.{same_folded, same_means}
use Rattle.dn_name.proofs.name.Name.same.Goals as goal

pub returns-clause-test : goal.returns-clause-test
returns-clause-test c =
    same_folded c.args.self.now c.args.other.now c.wire.ensures.name.0 c.wire-2.ensures.name.0 _ _ c.eq_ignore_ascii_case.result
    c.wire.ensures.wire c.wire-2.ensures.wire c.eq_ignore_ascii_case.ensures.test

pub returns-clause-meaning : goal.returns-clause-meaning
returns-clause-meaning c =
    same_means c.args.self.now c.args.other.now c.eq_ignore_ascii_case.result
    (same_folded c.args.self.now c.args.other.now c.wire.ensures.name.0 c.wire-2.ensures.name.0 _ _ c.eq_ignore_ascii_case.result
    c.wire.ensures.wire c.wire-2.ensures.wire c.eq_ignore_ascii_case.ensures.test)
