use Rattle.std.proofs.Common.{◌++◌, ◌∷◌, [], ◌∙◌, ap}
use Rattle.dn_pages.proofs.JoinedLemmas.{page_inserted}
use Rattle.dn_pages.proofs.row.insert_page.Goals as goal

pub returns-clause-joined : goal.returns-clause-joined
returns-clause-joined g c =
    page_inserted c.args.row.now.items c.insert.new.self.items c.args.at c.in_ok-of.field-0 c.args.item
    (c.in_ok-of.ensures ∙ c.in_ok-push.ensures.items ∙ ap (λ list. list ++ c.args.item ∷ []) c.new-items.ensures.items) c.in_ok-insert.ensures.items
