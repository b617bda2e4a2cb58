use Rattle.std.proofs.Common.{◌∙◌, sym, ap₂}
use Rattle.dn_name.specs.Walk.{ends_in}
use Rattle.dn_name.proofs.OrderLemmas.{under_lowered, under_means}
use Rattle.dn_name.proofs.name.Name.is_under.Goals as goal

pub returns-clause-test : goal.returns-clause-test
returns-clause-test c =
    c.ends_with.ensures c.lower-name.result c.lower-apex.result c.wire.ensures.name.0 c.wire-2.ensures.name.0 c.wire.ensures.wire c.wire-2.ensures.wire
    ∙ ap₂ ends_in c.lower-name.ensures c.lower-apex.ensures
    ∙ sym (under_lowered c.args.self.now c.args.apex.now)

pub returns-clause-meaning : goal.returns-clause-meaning
returns-clause-meaning c =
    under_means c.args.self.now c.args.apex.now c.ends_with.result
    (c.ends_with.ensures c.lower-name.result c.lower-apex.result c.wire.ensures.name.0 c.wire-2.ensures.name.0 c.wire.ensures.wire c.wire-2.ensures.wire
    ∙ ap₂ ends_in c.lower-name.ensures c.lower-apex.ensures
    ∙ sym (under_lowered c.args.self.now c.args.apex.now))
