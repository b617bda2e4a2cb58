use Rattle.dn_zone.proofs.AddLemmas.{add_changed, add_same}
use Rattle.dn_zone.proofs.zone.Zone.add.Goals as goal

pub returns-in-None : goal.returns-in-None
returns-in-None c =
    add_same c.args.self.now c.args.name.now c.args.row c.args.moment c.rows_at.result.now (rw (c.lower.ensures, c.table.ensures) at c.rows_at.ensures)
    (rw c.in-None.is at c.in_ok-with_added.ensures)

pub returns-in-Some : goal.returns-in-Some
returns-in-Some c =
    rw (add_changed c.args.self.now c.args.name.now c.args.row c.args.moment c.rows_at.result.now c.in-Some.rows (rw (c.lower.ensures, c.table.ensures) at c.rows_at.ensures)
    (rw c.in-Some.is at c.in_ok-with_added.ensures))
    (rw c.lower.ensures at c.write.ensures)
