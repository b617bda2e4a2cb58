use Rattle.std.proofs.Common.{◌≡◌, ◌++◌, filter, nat_lt, take}
use Rattle.dn_zone.proofs.settings.push_below.Given as goal

abbrev pub invariant-loop-other : goal.invariant-loop-other
invariant-loop-other l = l.out ≡ l.initial.out ++ filter (λ other. nat_lt other.id l.id) (take l.other-index l.list)
