use Rattle.std.proofs.Common.{List, None, Some, ◌++◌, ap, ◌∙◌}
use Rattle.dn_store.specs.declared.owned.Owned.{Owned}
use Rattle.dn_store.specs.Rows.{rows_of_node}
use Rattle.dn_answer.proofs.LookupLemmas.{name_is}
use Rattle.dn_answer.proofs.lookups.Rows.of_name.Goals as goal

pub returns-in_default : goal.returns-in_default
returns-in_default c =
    c.new-found.ensures ∙ name_is c.args.name.now c.self.inside.table.now.0 c.args.self.now None c.facts.ensures.ordered c.self.view_is c.in_default.ensures

pub returns : goal.returns
returns c =
    c.in_ok-push_node.ensures ∙ ap (λ (front : List Owned). front ++ rows_of_node c.in-Some.unit.now) c.new-found.ensures
    ∙ name_is c.args.name.now c.self.inside.table.now.0 c.args.self.now (Some c.in-Some.unit.now) c.facts.ensures.ordered c.self.view_is c.in-Some.ensures
