use Rattle.dn_zone.proofs.CursorLemmas.{cursor_kept, cursor_moved}
use Rattle.dn_zone.proofs.laws.cursors_move_apart.Goals as goal

pub returns-clause-moved : goal.returns-clause-moved
returns-clause-moved c = cursor_moved

pub returns-clause-kept : goal.returns-clause-kept
returns-clause-kept c = cursor_kept
