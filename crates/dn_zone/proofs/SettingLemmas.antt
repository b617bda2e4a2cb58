-- What a command of aging makes of a zone.
use Rattle.std.proofs.Common.{◌≡◌, ℕ, true, false, List, [], ◌∷◌, refl}
use Rattle.dn_io.specs.Moments.{hour_of}
use Rattle.dn_property.specs.declared.property.Property.{Property}
use Rattle.dn_property.specs.declared.rules.ZoneRules.{ZoneRules}
use Rattle.dn_property.specs.Rules.{rules_of}
use Rattle.dn_store.specs.declared.unit.UnitKey.TheVariants as keys
use Rattle.dn_store.specs.declared.unit.UnitValue.TheVariants as values
use Rattle.dn_store.specs.Contents.{properties_of}
use Rattle.dn_update.specs.Writes.{stamped, written}
use Rattle.dn_zone.specs.declared.event.AdminCmd.{AdminCmd}
use Rattle.dn_zone.specs.declared.event.AdminDone.TheVariants.{Unchanged}
use Rattle.dn_zone.specs.declared.event.Answer.TheVariants.{Admin}
use Rattle.dn_zone.specs.declared.settings.Setting.{Setting}
use Rattle.dn_zone.specs.State.{ZoneState}
use Rattle.dn_zone.specs.Settings.{all_set, settings_of, with_settings}
use Rattle.dn_zone.specs.Zone.{set_step, settings_wanted, with_table}

-- nothing is wanted where all settings hold
pub set_same : (zone : ZoneState) (cmd : AdminCmd) (ticks hour : ℕ) (list : List Property) (rules : ZoneRules) (settings : List Setting)
    → list ≡ properties_of zone.table.0 → rules ≡ rules_of list → hour ≡ hour_of ticks → settings ≡ settings_of cmd rules hour → true ≡ all_set rules settings
    → set_step zone cmd ticks ≡ (zone, Admin Unchanged)
unfolding set_step settings_wanted written stamped
set_same zone cmd ticks hour list rules settings its_list its_rules its_hour its_settings hold =
    rw (← its_list, ← its_rules, ← its_hour, ← its_settings, ← hold) refl

-- and else the list with the settings
pub set_changed : (zone : ZoneState) (cmd : AdminCmd) (ticks hour : ℕ) (list : List Property) (rules : ZoneRules) (settings : List Setting)
    → list ≡ properties_of zone.table.0 → rules ≡ rules_of list → hour ≡ hour_of ticks → settings ≡ settings_of cmd rules hour → false ≡ all_set rules settings
    → set_step zone cmd ticks ≡ with_table zone (written (record { key = keys.Props; value = values.Props (with_settings settings list) } ∷ []) zone.id ticks zone.table)
unfolding set_step settings_wanted
set_changed zone cmd ticks hour list rules settings its_list its_rules its_hour its_settings hold =
    rw (← its_list, ← its_rules, ← its_hour, ← its_settings, ← hold) refl
