use Rattle.std.proofs.Common.{◌≡◌, filter, take}
use Rattle.std.specs.Prelude.{not}
use Rattle.dn_io.specs.Moments.{hour_of}
use Rattle.dn_pass.specs.Pass.{is_stale_row}
use Rattle.dn_pass.proofs.sweeper.Sweeper.fresh_rows.Given as goal

abbrev pub invariant-loop-row : goal.invariant-loop-row
invariant-loop-row l =
    l.fresh ≡ filter (λ row. not (is_stale_row l.self.rules (hour_of l.self.moment) row)) (take l.row-index l.rows)
