use Rattle.dn_io.proofs.PieceLemmas.{unread_moves}
use Rattle.dn_io.proofs.source.Unread.read.Goals as goal

pub returns-clause-bytes : goal.returns-clause-bytes
returns-clause-bytes c =
    rw (c.copy_front-count.ensures.front, c.split_at.ensures.back, c.as_slice.ensures, ← c.self.view_is)
    (unread_moves c.self.inside.bytes c.self.inside.at c.copy_front-count.result)
