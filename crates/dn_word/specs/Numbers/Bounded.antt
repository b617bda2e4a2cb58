-- The value of decimal digits up to a bound.
use Rattle.std.specs.Prelude.{ℕ, nat_le, if◌then◌else◌, List, Option, None, Some}
use Rattle.dn_word.specs.Numbers.{value_behind}

abbrev pub value_within : ℕ → List ℕ → Option ℕ
value_within most digits = if nat_le (value_behind 0 digits) most then Some (value_behind 0 digits) else None
