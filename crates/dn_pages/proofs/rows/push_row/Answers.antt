use Rattle.std.proofs.Common.{◌++◌, ◌∷◌, [], ◌∙◌, ap, arith}
use Rattle.std.proofs.lemmas.Result.{on_ok_weaker}
use Rattle.dn_pages.proofs.RowsLemmas.{row_pushed}
use Rattle.dn_pages.proofs.rows.push_row.Goals as goal

pub returns-clause-items : goal.returns-clause-items
returns-clause-items g c =
    on_ok_weaker c.insert_page.result
    (row_pushed c.args.rows.now.items c.insert_page.new.row.items c.len-end.result c.in_ok-of.field-0 c.args.item
    (c.in_ok-of.ensures ∙ c.in_ok-push.ensures.items ∙ ap (λ list. list ++ c.args.item ∷ []) c.new-page.ensures.items) (omega (arith, c.len-end.ensures)))
    c.insert_page.ensures.joined
