use Rattle.std.proofs.Common.{◌≡◌, filter, map, take}
use Rattle.dn_pass.specs.Pass.{is_swept, swept}
use Rattle.dn_pass.proofs.sweeper.Sweeper.sweep.Given as goal

abbrev pub invariant-loop-unit : goal.invariant-loop-unit
invariant-loop-unit l =
    l.writes ≡ map (swept l.self.rules l.self.moment l.self.id) (filter (is_swept l.self.rules l.self.moment) (map (λ unit. unit.now) (take l.unit-index l.looked)))
