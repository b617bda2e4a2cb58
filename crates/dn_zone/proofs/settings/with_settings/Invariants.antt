use Rattle.std.proofs.Common.{◌≡◌, drop}
use Rattle.dn_zone.specs.Settings.{with_settings}
use Rattle.dn_zone.proofs.settings.with_settings.Given as goal

abbrev pub invariant-loop-setting : goal.invariant-loop-setting
invariant-loop-setting l = with_settings (drop l.setting-index l.settings) l.after ≡ with_settings l.settings l.list
