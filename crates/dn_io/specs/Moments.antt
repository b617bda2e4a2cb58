-- Moments, in ticks of 100 ns since 1601-01-01 00:00 UTC.
use Rattle.std.specs.Prelude.{ℕ, ◌/◌}

-- the ticks of an hour
abbrev pub ticks_per_hour : ℕ
ticks_per_hour = 36000000000

-- the first moment that there is, an hour after: as a record's time stamp hour 0 means that it never ages
abbrev pub first_moment : ℕ
first_moment = ticks_per_hour

-- whole seconds of a moment
abbrev pub seconds_of : ℕ → ℕ
seconds_of ticks = ticks / 10000000

-- whole hours of a moment
abbrev pub hour_of : ℕ → ℕ
hour_of ticks = ticks / ticks_per_hour
