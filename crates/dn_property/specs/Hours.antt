-- Aging at an hour. Time stamps and hours are whole hours since 1601-01-01 00:00 UTC; sums are not cut.
use Rattle.std.specs.Prelude.{ℕ, ◌+◌, Bool, not, ◌&&◌, nat_eq, nat_le}
use Rattle.dn_property.specs.declared.rules.ZoneRules.{ZoneRules}

-- Both intervals are over since the time stamp. A record with time stamp 0 never ages.
abbrev pub is_stale : ℕ → ZoneRules → ℕ → Bool
is_stale stamp_hour rules hour = not (nat_eq stamp_hour 0) && nat_le (stamp_hour + rules.norefresh + rules.refresh) hour

-- stale records are removed at this hour
abbrev pub is_due : ZoneRules → ℕ → Bool
is_due rules hour = rules.aging && nat_le rules.available hour

-- a refresh is written at this hour
abbrev pub is_open : ℕ → ZoneRules → ℕ → Bool
is_open stamp_hour rules hour = rules.aging && not (nat_eq stamp_hour 0) && nat_le (stamp_hour + rules.norefresh) hour
