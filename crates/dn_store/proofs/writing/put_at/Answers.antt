use Rattle.std.proofs.Common.{◌≡◌, ◌∙◌, true, false, set, sym}
use Rattle.std.proofs.lemmas.Result.{IfOk-weaker}
use Rattle.std.specs.List.{insert}
use Rattle.dn_pages.specs.Pages.{items, rank}
use Rattle.dn_store.specs.Table.{placed}
use Rattle.dn_store.proofs.PlaceLemmas.{placed_by}
use Rattle.dn_store.proofs.writing.put_at.Goals as goal

pub returns-then-replaces : goal.returns-then-replaces
returns-then-replaces c =
    IfOk-weaker c.set.result (λ later. items later ≡ set (items c.args.units) (rank c.args.units c.args.place) c.args.unit) (λ later. items later ≡ placed c.args.unit (items c.args.units))
    (λ later made. made ∙ sym (placed_by c.args.unit (items c.args.units) c.args.replaces true (rank c.args.units c.args.place) c.requires.at c.requires.there c.if-replaces.true)) c.set.ensures

pub returns-else-replaces : goal.returns-else-replaces
returns-else-replaces c =
    IfOk-weaker c.insert.result (λ later. items later ≡ insert (items c.args.units) (rank c.args.units c.args.place) c.args.unit) (λ later. items later ≡ placed c.args.unit (items c.args.units))
    (λ later made. made ∙ sym (placed_by c.args.unit (items c.args.units) c.args.replaces false (rank c.args.units c.args.place) c.requires.at c.requires.there c.if-replaces.false)) c.insert.ensures
