-- What a zone's property list says of updates and of aging (MS-DNSP 2.3.2.1.1).
use Rattle.std.specs.Prelude.{ℕ, Bool, not, nat_eq, nat_le, if◌then◌else◌, List, [], ◌∷◌, find, Option, option_map, option_and_then, unwrap_or}
use Rattle.dn_property.specs.Ids.{AGING_ENABLED_TIME, AGING_STATE, ALLOW_UPDATE, NOREFRESH_INTERVAL, REFRESH_INTERVAL}
use Rattle.dn_property.specs.Numbers.{number_in}
use Rattle.dn_property.specs.declared.property.Property.{Property}
use Rattle.dn_property.specs.declared.rules.ZoneRules.{ZoneRules}

abbrev pub has_id : ℕ → Property → Bool
has_id id item = nat_eq item.id id

-- the data of the first property of an id
abbrev pub data_of : ℕ → List Property → Option (List ℕ)
data_of id list = option_map (λ item. item.content) (find (has_id id) list)

-- the number of a property, or the default
abbrev pub number_or : ℕ → ℕ → List Property → ℕ
number_or default id list = unwrap_or (option_and_then number_in (data_of id list)) default

-- 0 no updates, 1 all, 2 secure ones alone; in this project's profile any other number counts as 0
abbrev pub known : ℕ → ℕ
known number = if nat_le number 2 then number else 0

-- in this project's profile ALLOW_UPDATE has one byte, or four
abbrev pub allow_in : List ℕ → ℕ
allow_in [] = 0
allow_in (byte ∷ []) = known byte
allow_in (byte ∷ next ∷ rest) = known (unwrap_or (number_in (byte ∷ next ∷ rest)) 0)

abbrev pub allow_of : List Property → ℕ
allow_of list = unwrap_or (option_map allow_in (data_of ALLOW_UPDATE list)) 0

-- in this project's profile both intervals of a zone that has none of its own, in hours: a week
abbrev pub default_interval : ℕ
default_interval = 168

-- The rules. Without its property each has its default, which is this project's profile: no updates, no aging, a week for both
-- intervals, removal from hour 0 on.
abbrev pub rules_of : List Property → ZoneRules
rules_of list =
    record {
      allow = allow_of list;
      aging = not (nat_eq (number_or 0 AGING_STATE list) 0);
      norefresh = number_or default_interval NOREFRESH_INTERVAL list;
      refresh = number_or default_interval REFRESH_INTERVAL list;
      available = number_or 0 AGING_ENABLED_TIME list;
    }
