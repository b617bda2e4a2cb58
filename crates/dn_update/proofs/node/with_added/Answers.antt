use Rattle.std.proofs.Common.{sym}
use Rattle.dn_update.proofs.AddedLemmas.{adds_alias, adds_barred, adds_placed, adds_there}
use Rattle.dn_update.proofs.node.with_added.Goals as goal

pub returns-then-is_barred : goal.returns-then-is_barred
returns-then-is_barred c = adds_barred c.args.row c.args.rows.now (sym c.if-is_barred.ensures)

pub returns-then-replaces_alias : goal.returns-then-replaces_alias
returns-then-replaces_alias c =
    adds_alias c.args.row c.args.rows.now c.in_ok-placed_row.field-0 (sym c.if-is_barred.ensures) (sym c.if-replaces_alias.ensures) c.in_ok-placed_row.ensures

pub returns-then-is_there : goal.returns-then-is_there
returns-then-is_there c =
    adds_there c.args.row c.args.rows.now (sym c.if-is_barred.ensures) (sym c.if-replaces_alias.ensures) (sym c.if-is_there.ensures)

pub returns : goal.returns
returns c =
    adds_placed c.args.row c.args.rows.now c.in_ok-placed_row-2.field-0 (sym c.if-is_barred.ensures) (sym c.if-replaces_alias.ensures) (sym c.if-is_there.ensures) c.in_ok-placed_row-2.ensures
