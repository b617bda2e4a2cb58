use Rattle.std.proofs.Common.{ap}
use Rattle.std.specs.Prelude.{option_copied}
use Rattle.dn_pages.specs.Pages.{items}
use Rattle.dn_store.proofs.TableLemmas.{least_seen}
use Rattle.dn_store.proofs.table.Table.next_after.Goals as goal
use Rattle.std.proofs.Common.{refl}

pub returns-clause-least : goal.returns-clause-least
returns-clause-least c =
    least_seen (option_copied c.args.key) (option_copied c.find_above.result) (items c.self.inside.units) (items c.self.inside.units) c.args.self.now.0
    c.find_above.ensures refl (ap (λ value. value.0) c.self.view_is) c.self.invariant.table.ordered
