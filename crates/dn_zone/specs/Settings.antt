-- What commands of aging set in a zone's property list.
use Rattle.std.specs.Prelude.{ℕ, ◌+◌, min, Bool, true, false, not, nat_eq, nat_lt, if◌then◌else◌, List, [], ◌∷◌, ◌++◌, filter}
use Rattle.std.specs.List.{list_all}
use Rattle.std.specs.Int.{w32, to_le_bytes}
use Rattle.dn_property.specs.declared.property.Property.{Property}
use Rattle.dn_property.specs.Ids.{AGING_ENABLED_TIME, AGING_STATE, NOREFRESH_INTERVAL, REFRESH_INTERVAL}
use Rattle.dn_property.specs.declared.rules.ZoneRules.{ZoneRules}
use Rattle.dn_property.specs.Rules.{rules_of}
use Rattle.dn_zone.specs.declared.event.AdminCmd.{AdminCmd}
use Rattle.dn_zone.specs.declared.event.AdminCmd.TheVariants as commands
use Rattle.dn_zone.specs.declared.settings.Setting.{Setting}
use Rattle.dn_zone.specs.declared.settings.Setting.TheVariants as settings

-- a property as a server makes it
unfoldable pub property : ℕ → List ℕ → Property
property id content = record { name_length = 1; flag = 0; id = id; content = content; tail = 0 ∷ [] }

-- the property that a setting is about
abbrev pub property_id : Setting → ℕ
property_id (settings.NoRefresh hours) = NOREFRESH_INTERVAL
property_id (settings.Available hour) = AGING_ENABLED_TIME
property_id (settings.Refresh hours) = REFRESH_INTERVAL
property_id (settings.Aging on) = AGING_STATE

abbrev pub wanted_number : Setting → ℕ
wanted_number (settings.NoRefresh hours) = hours
wanted_number (settings.Available hour) = hour
wanted_number (settings.Refresh hours) = hours
wanted_number (settings.Aging on) = if on then 1 else 0

-- the rules are as the setting wants them
abbrev pub is_set : ZoneRules → Setting → Bool
is_set rules (settings.NoRefresh hours) = nat_eq rules.norefresh hours
is_set rules (settings.Available hour) = nat_eq rules.available hour
is_set rules (settings.Refresh hours) = nat_eq rules.refresh hours
is_set rules (settings.Aging on) = if on then rules.aging else not rules.aging

-- the list with a property in its place by id, in place of those of its id
unfoldable pub with_property : Property → List Property → List Property
with_property item list =
    filter (λ other. nat_lt other.id item.id) list ++ item ∷ filter (λ other. nat_lt item.id other.id) list

-- A property whose value is the wanted one is left as it is, and so is an absent one whose default is.
unfoldable pub with_setting : Setting → List Property → List Property
with_setting setting list =
    if is_set (rules_of list) setting then list else with_property (property (property_id setting) (to_le_bytes w32 (wanted_number setting))) list

-- the settings in turn
unfoldable pub with_settings : List Setting → List Property → List Property
with_settings [] list = list
with_settings (setting ∷ rest) list = with_settings rest (with_setting setting list)

-- the last hour that four bytes can name
abbrev pub last_hour : ℕ
last_hour = 4294967295

-- What a command sets at an hour. Records that are there when aging is turned on have the refresh interval to be refreshed
-- in before any is removed.
unfoldable pub settings_of : AdminCmd → ZoneRules → ℕ → List Setting
settings_of commands.AgingOn rules hour =
    if rules.aging then [] else settings.Available (min (hour + rules.refresh) last_hour) ∷ settings.Aging true ∷ []
settings_of commands.AgingOff rules hour = settings.Aging false ∷ []
settings_of (commands.NoRefresh hours) rules hour = settings.NoRefresh hours ∷ []
settings_of (commands.Refresh hours) rules hour = settings.Refresh hours ∷ []
settings_of (commands.Add name ttl rtype rdata when) rules hour = []

abbrev pub all_set : ZoneRules → List Setting → Bool
all_set rules list = list_all (is_set rules) list
