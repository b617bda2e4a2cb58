use Rattle.std.proofs.Common.{length}
use Rattle.dn_message.proofs.rdata.+add_parts.Given as goal

abbrev pub decreases-add_parts : goal.decreases-add_parts
decreases-add_parts l = length l.parts.now
