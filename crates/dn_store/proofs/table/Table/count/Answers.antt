use Rattle.dn_pages.specs.Pages.{items}
use Rattle.dn_store.proofs.TableLemmas.{few_units}
use Rattle.dn_store.proofs.table.Table.count.Goals as goal

pub count-requires : goal.count-requires
count-requires c = few_units (items c.self.inside.units) c.self.inside.top c.self.invariant.table
