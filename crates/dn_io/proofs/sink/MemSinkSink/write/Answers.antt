use Rattle.std.proofs.Common.{rules}
use Rattle.dn_io.proofs.sink.MemSinkSink.write.Goals as goal
use Rattle.dn_io.proofs.sink.MemSinkSink.write.Goals.{then-contains-via-then-contains, then-contains-via-else-contains+then-is_err}

pub returns-then-contains-clause-room : goal.returns-then-contains-clause-room
returns-then-contains-clause-room c not_listed =
    elim c.then-contains.branch [ then-contains-via-then-contains w ↦ absurd (search (rules, not_listed, w.if-contains.ensures, c.contains.ensures.value, c.as_slice.ensures)) | then-contains-via-else-contains+then-is_err w ↦ search (rules, w.if-is_err.true, w.is_err.ensures.value, w.extend_from_slice.ensures.full) ]
