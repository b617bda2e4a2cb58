use Rattle.std.proofs.Common.{◌∙◌, ap}
use Rattle.dn_pages.specs.Pages.{items}
use Rattle.dn_store.proofs.FoundLemmas.{others_of, written_of}
use Rattle.dn_store.proofs.table.Table.put.Goals as goal

pub returns-clause-written : goal.returns-clause-written
returns-clause-written c =
    written_of (items c.in_ok-finish.field-0) (items c.in_ok-draft.field-0) c.self.inside.top c.as_slice.result.now c.args.batch.now (ap items c.in_ok-finish.ensures ∙ c.in_ok-units.ensures.taken) c.as_slice.ensures c.requires.keys

pub returns-clause-others : goal.returns-clause-others
returns-clause-others c =
    others_of (items c.in_ok-finish.field-0) (items c.in_ok-draft.field-0) c.args.self.now.0 c.self.inside.top c.as_slice.result.now c.args.batch.now
    (ap items c.in_ok-finish.ensures ∙ c.in_ok-units.ensures.taken) c.as_slice.ensures (ap items c.in_ok-draft.ensures ∙ ap (λ value. value.0) c.self.view_is)
