use Rattle.std.proofs.Common.{not, rules, tests, ◌∙◌}
use Rattle.std.proofs.lemmas.Iterator.{YieldsList-from_slice}
use Rattle.std.proofs.lemmas.Iterator.Search.{position_from_yields_List}
use Rattle.dn_update.specs.Node.Places.{comes_behind}
use Rattle.dn_update.proofs.PlacedLemmas.{first_or_end}
use Rattle.dn_update.proofs.node.place_of.Goals as goal

pub returns-clause-place : goal.returns-clause-place
returns-clause-place c =
    c.unwrap_or.ensures
    ∙ first_or_end (λ next. not (comes_behind c.args.row.now next)) c.args.rows.now c.position.result
    (position_from_yields_List (λ next. not (comes_behind c.args.row.now next)) _ _ c.position.result c.position.ensures.ran (YieldsList-from_slice c.args.rows.now cc) (λ x b q k. search (rules, tests)))
