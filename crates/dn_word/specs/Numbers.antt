-- Decimal numbers.
pub mod Bounded
use Rattle.std.specs.Prelude.{ℕ, ◌+◌, ◌-◌, ◌*◌, Bool, true, false, not, ◌&&◌, nat_eq, nat_le, if◌then◌else◌, List, [], ◌∷◌, Option, None, Some}
use Rattle.std.specs.List.{list_all}

abbrev pub is_digit : ℕ → Bool
is_digit byte = nat_le 48 byte && nat_le byte 57

-- the number of decimal digits, behind digits of this value
abbrev pub value_behind : ℕ → List ℕ → ℕ
value_behind value [] = value
value_behind value (digit ∷ digits) = value_behind (10 * value + (digit - 48)) digits

abbrev pub no_leading_zero : List ℕ → Bool
no_leading_zero [] = false
no_leading_zero (digit ∷ []) = true
no_leading_zero (digit ∷ next ∷ digits) = not (nat_eq digit 48)

-- a decimal number without sign and leading zero, up to `most`
unfoldable pub number_within : ℕ → List ℕ → Option ℕ
number_within most word =
    if list_all is_digit word && no_leading_zero word && nat_le (value_behind 0 word) most then Some (value_behind 0 word) else None
