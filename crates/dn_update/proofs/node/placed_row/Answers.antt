use Rattle.dn_update.proofs.PlacedLemmas.{placed_parts}
use Rattle.dn_update.proofs.node.placed_row.Goals as goal

pub returns : goal.returns
returns c =
    placed_parts c.args.row c.args.rows.now _ _ _ _ _ _ _ _
    c.place_of.ensures.place c.split_at.ensures.front c.split_at.ensures.back c.behind_place-behind.ensures c.new-placed.ensures
    c.in_ok-extend_copies.ensures.ok c.in_ok-push.ensures.ok c.in_ok-extend_copies-2.ensures.ok
