-- Moments as words.
use Rattle.std.specs.Prelude.{ℕ, ◌-◌, ◌^◌, nat_le, if◌then◌else◌, List, Option, None, Some}
use Rattle.dn_io.specs.Moments.{first_moment}
use Rattle.dn_io.specs.Options.{◌>>=◌}
use Rattle.dn_word.specs.Numbers.{number_within}

-- a moment: ticks of 100 ns since 1601-01-01, at least an hour
unfoldable pub moment_of : List ℕ → Option ℕ
moment_of word = do
  ticks ← number_within (2 ^ 64 - 1) word
  if nat_le first_moment ticks then Some ticks else None
