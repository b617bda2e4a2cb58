use Rattle.std.proofs.Common.{◌-◌}
use Rattle.dn_name.proofs.wire.+fault_behind.Given as goal

abbrev pub decreases-fault_behind : goal.decreases-fault_behind
decreases-fault_behind l = 255 - l.size
