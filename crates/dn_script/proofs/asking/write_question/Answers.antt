use Rattle.std.proofs.Common.{arith}
use Rattle.dn_script.proofs.asking.write_question.Goals as goal

pub unreachable-requires : goal.unreachable-requires
unreachable-requires c = let fits = c.in-Err.ensures.room.1 (omega (arith, c.requires, c.in-Err.ensures.most)) in cc
