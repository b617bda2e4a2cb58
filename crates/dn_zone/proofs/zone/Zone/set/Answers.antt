use Rattle.dn_zone.proofs.SettingLemmas.{set_changed, set_same}
use Rattle.dn_zone.proofs.zone.Zone.set.Goals as goal

pub returns-then-all_set : goal.returns-then-all_set
returns-then-all_set c =
    set_same c.args.self.now c.args.cmd.now c.args.moment c.hour.result c.properties_of-list.result.now c.rules_of-rules.result c.in_ok-settings.settings
    (rw c.table.ensures at c.properties_of-list.ensures) c.rules_of-rules.ensures c.hour.ensures c.in_ok-settings.ensures (rw c.as_slice.ensures at c.if-all_set.ensures)

pub returns : goal.returns
returns c =
    rw (set_changed c.args.self.now c.args.cmd.now c.args.moment c.hour.result c.properties_of-list.result.now c.rules_of-rules.result c.in_ok-settings.settings
    (rw c.table.ensures at c.properties_of-list.ensures) c.rules_of-rules.ensures c.hour.ensures c.in_ok-settings.ensures (rw c.as_slice.ensures at c.if-all_set.ensures))
    (rw (c.in_ok-after.ensures, c.as_slice-2.ensures) at c.write.ensures)
