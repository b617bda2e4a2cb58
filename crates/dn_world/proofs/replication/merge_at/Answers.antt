use Rattle.std.proofs.Common.{◌≡◌, Some, subst}
use Rattle.std.specs.Prelude.{position}
use Rattle.dn_link.specs.Sent.{Run}
use Rattle.dn_world.specs.World.{is_zone}
use Rattle.dn_world.proofs.WorldLemmas.{merge_puts}
use Rattle.dn_world.proofs.replication.merge_at.Goals as goal

pub returns-clause-ok : goal.returns-clause-ok
returns-clause-ok c =
    merge_puts c.args.id c.args.changes.now c.in-Some.place c.in-Some-get.zone.now c.in_ok-made.made c.args.zones.now _ c.put_prepared-answer.result
    (subst (λ (run : Run). Some c.in-Some.place ≡ position (is_zone c.args.id run.zone) c.args.zones.now) c.changes.view_is (rw c.as_slice.ensures at c.in-Some.ensures))
    c.in-Some-get.ensures c.in_ok-made.ensures.step c.put_prepared-answer.ensures
