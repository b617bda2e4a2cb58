use Rattle.std.proofs.Common.{◌≡◌, ◌-◌, ◌^◌, filter, map, take, length}
use Rattle.std.specs.Prelude.{min, sum_by}
use Rattle.dn_io.specs.Moments.{hour_of}
use Rattle.dn_store.specs.Contents.{rows_in}
use Rattle.dn_pass.specs.Pass.{is_swept, stale_rows}
use Rattle.dn_pass.proofs.sweeper.Sweeper.removed_from.Given as goal

abbrev pub invariant-loop-unit : goal.invariant-loop-unit
invariant-loop-unit l =
    l.removed
    ≡ min
    (sum_by (λ unit. length (stale_rows l.self.rules (hour_of l.self.moment) (rows_in unit.value)))
    (filter (is_swept l.self.rules l.self.moment) (map (λ unit. unit.now) (take l.unit-index l.looked))))
    (2 ^ 64 - 1)
